-- Reopening, from its steps.
use Rattle.std.proofs.Common.{◌≡◌, ℕ, ◌≤◌, true, List, length, None, Ok, Err, Result, sym, ap, ◌∙◌, subst}
use Rattle.octets.specs.Buffers.{zeros}
use Rattle.device.specs.Effects.{State}
use Rattle.fault.specs.declared.Halt.{Halt}
use Rattle.layout.specs.declared.Numbers.{Numbers}
use Rattle.marks.specs.Rows.{room_of}
use Rattle.chain.specs.declared.Survey.{Survey}
use Rattle.chain.specs.Reading.{Link, Sound}
use Rattle.chain.specs.Listing.{marked_all}
use Rattle.chain.specs.Outcome.{reading_of, answer_of, marks_of}
use Rattle.calls.specs.Kits.{Kit, numbers_in}
use Rattle.steps.specs.OneStep.{Restarted}
use Rattle.steps.specs.Writes.{Ran, through, failed, Wrote}
use Rattle.steps.proofs.Plans.{ran_wrote}
use Rattle.calls.specs.Files.{sweep_writes}
use Rattle.device.proofs.States.{same_state}
use Rattle.calls.proofs.Readings.{entered_by, read_err, read_ok}
use Rattle.calls.specs.Calls.{reopen_verdict, read_by, powered, Reopening, declined, stopped, faulty, cut, swept}
use Rattle.reopening.specs.Sweeps.{Reopens, GoesOn}

pub reopened_none : (k : Kit) (d m : ℕ) (s : State) (h : Halt) (r : Result (Unit {0}) Halt) (t : State) → reopen_verdict d s.slots m ≡ Err h → r ≡ Err h → t ≡ s → Reopens k d s m r t
unfolding Reopens
reopened_none k d m s h r t v e a = declined h v e a

pub reopened_off : (k : Kit) (d m : ℕ) (s : State) (h : Halt) (r : Result (Unit {0}) Halt) (t : State) → reopen_verdict d s.slots m ≡ Ok tt → Restarted s (Err h) t → r ≡ Err h → Reopens k d s m r t
unfolding Reopens
reopened_off k d m s h r t v o e = stopped v (e ∙ ap Err o.0) o.1 o.2

pub reopened : (k : Kit) (d m : ℕ) (s u : State) (numbers : Numbers) (r : Result (Unit {0}) Halt) (t : State) → numbers_in k ≡ numbers → reopen_verdict d s.slots m ≡ Ok tt → Restarted s (Ok tt) u →
    GoesOn d u numbers m r t → Reopens k d s m r t
unfolding Reopens GoesOn
reopened k d m s u numbers r t en ok o a = a k s en ok o.0

pub ruleset reopening = (reopened_none, reopened_off, reopened)

-- ---- after the restart
pub went_faulty : (d m : ℕ) (u : State) (numbers : Numbers) (h : Halt) (r : Result (Unit {0}) Halt) → u.power ≡ true → Err h ≡ answer_of d None (reading_of d numbers m u) → r ≡ Err h → GoesOn d u numbers m r u
unfolding GoesOn
went_faulty d m u numbers h r ep a e k s en ok eu =
    let w = entered_by d {s = s.slots} {least = 0} {room = 0} {marks = m} ok in
    let same : u ≡ powered s.slots = same_state eu ep in
    faulty h ok (rw en (read_err d numbers (powered s.slots) w.wide w.some None (rw same at a))) e eu ep

swept_by : (k : Kit) (d m : ℕ) (s : State) (f : Sound) (r : Result (Unit {0}) Halt) (t : State) → reopen_verdict d s.slots m ≡ Ok tt → read_by k d (powered s.slots) ≡ Ok f →
    Ran s.slots (sweep_writes s.slots f.1) r t → Reopening k d s m r t
swept_by k d m s f r t ok e (through q a o) = swept f ok e a q o
swept_by k d m s f r t ok e (failed n h q c o) = cut f n h ok e c q o

pub went : (d m n : ℕ) (u : State) (numbers : Numbers) (x : Survey) (row : List ℕ) (r : Result (Unit {0}) Halt) (t : State) → u.power ≡ true → length u.slots ≡ n →
    Ok x ≡ answer_of d None (reading_of d numbers m u) → row ≡ marks_of m (reading_of d numbers m u) → length row ≡ m →
    ((xs : List Link) → row ≡ marked_all (zeros (length row)) xs → room_of n ≤ length row → Wrote u.slots (sweep_writes u.slots xs) r t) → GoesOn d u numbers m r t
unfolding GoesOn
went d m n u numbers x row r t ep ec a b el ran k s en ok eu =
    let w = entered_by d {s = s.slots} {least = 0} {room = 0} {marks = m} ok in
    let same : u ≡ powered s.slots = same_state eu ep in
    let told = read_ok d numbers (powered s.slots) w.wide w.some None (rw same at a) (rw same at b) in
    let z : row ≡ marked_all (zeros (length row)) told.links = told.marked ∙ ap (λ j. marked_all (zeros j) told.links) (sym el) in
    let l : room_of n ≤ length row = rw (← ec, eu, el) w.wide in
    swept_by k d m s (x.head, told.links) r t ok (rw en told.read) (subst (λ v. Ran v (sweep_writes v told.links) r t) eu (ran_wrote (ran told.links z l)))

pub ruleset going = (went_faulty, went)
