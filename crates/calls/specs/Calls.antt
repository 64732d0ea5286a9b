-- What each call of a server does, on every input: the outcome, and what the buffers and the device then hold.
use Rattle.std.specs.Prelude.{◌≡◌, ℕ, ◌+◌, ◌-◌, ◌^◌, ◌<◌, ◌≤◌, Bool, true, false, cond, ◌&&◌, List, [], ◌∷◌, ◌++◌, length, Ok, Err, Result, ◌==◌, nat_le, nat_lt}
use Rattle.octets.specs.Buffers.{zeros, filled}
use Rattle.refusal.specs.declared.Refusal.TheVariants.{ShortBuffer, SlotCount, NotARecord, Exhausted, TicketLength, OtherName, NotIssued, Spent, SealBroken, OpenedNotARecord, NoFreeSlot}
use Rattle.fault.specs.declared.Halt.{Halt}
use Rattle.fault.specs.declared.Step.TheVariants.{Restart}
use Rattle.fault.specs.Faults.{plainly, placed, unpowered}
use Rattle.device.specs.Effects.{Slots, State}
use Rattle.session.specs.Limits.{max_record}
use Rattle.session.specs.Records.{is_record}
use Rattle.layout.specs.declared.Head.{Head}
use Rattle.tree.specs.declared.Node.{Node}
use Rattle.tree.specs.Nodes.{Covers}
use Rattle.tree.specs.Cover.{In}
use Rattle.tree.specs.Puncture.{siblings_from}
use Rattle.tree.specs.Values.{valued, key_from, value_from, Counted}
use Rattle.marks.specs.Rows.{room_of}
use Rattle.chain.specs.Reading.{Link, Sound}
use Rattle.chain.specs.Outcome.{file_read}
use Rattle.calls.specs.Kits.{Kit, numbers_in}
use Rattle.ticket.specs.Limits.{max_ticket, ticket_fits}
use Rattle.ticket.specs.Parts.{name_in, number_in, heading_in, sealed_in}
use Rattle.calls.specs.Tickets.{ticket_of}
use Rattle.steps.specs.Writes.{stood, CutShort}
use Rattle.calls.specs.Files.{issue_write, links_in, redeem_writes, FreeSlots, free_count, make_writes, sweep_writes}

-- the two numbers that issue and redeem answer, or what stopped them
abbrev pub Outcome : Type 0
Outcome = Result (ℕ × ℕ) Halt

-- the answer of a call that went down from the node x to the number n: the length of what it wrote, and the generator calls made
pub record Finished (d : ℕ) (x : Node) (n long : ℕ) (r : Outcome) : Type 0 where
  pub calls : ℕ
  pub counted : Counted d x n calls
  pub is : r ≡ Ok (long, calls)

-- ---- checks that calls share
-- a device has room for the head, the root's record and a puncture, and its indices fit
abbrev pub min_slots : ℕ → ℕ
min_slots d = d + 2

abbrev pub max_slots : ℕ
max_slots = 1024

abbrev pub count_fits : ℕ → Slots → Bool
count_fits d s = nat_le (min_slots d) (length s) && nat_le (length s) max_slots

-- the slot count where it fits, else the refusal
abbrev pub Fitting : ℕ → Slots → Result ℕ Halt → Type 0
Fitting d s (Ok n) = (count_fits d s ≡ true) × (n ≡ length s)
Fitting d s (Err h) = (count_fits d s ≡ false) × (h ≡ plainly SlotCount)

-- What stops a call at its beginning, in this order: a buffer of `room` bytes shorter than `least`, too few bytes of marks for the
-- slots, a slot count that does not fit.
abbrev pub entry_verdict : ℕ → Slots → ℕ → ℕ → ℕ → Result (Unit {0}) Halt
entry_verdict d s least room marks =
    cond (nat_le least room && nat_le (room_of (length s)) marks) (cond (count_fits d s) (Ok tt) (Err (plainly SlotCount))) (Err (plainly ShortBuffer))

-- the slot count where nothing stops the call so far, else what does
abbrev pub Admitted : ℕ → Slots → ℕ → ℕ → ℕ → Result ℕ Halt → Type 0
Admitted d s least room marks (Ok n) = (entry_verdict d s least room marks ≡ Ok tt) × (n ≡ length s)
Admitted d s least room marks (Err h) = entry_verdict d s least room marks ≡ Err h

-- what comes after the beginning, where nothing stops the call there
abbrev pub entered : Result (Unit {0}) Halt → Result Sound Halt → Result Sound Halt
entered (Ok u) f = f
entered (Err h) f = Err h

-- the file as a call reads it
abbrev pub read_by : Kit → ℕ → State → Result Sound Halt
read_by k d s = file_read d (numbers_in k) s

-- slots with the power on, as a restart leaves them
abbrev pub powered : Slots → State
powered s = record { slots = s; power = true }

abbrev pub same_bytes : List ℕ → List ℕ → Bool
same_bytes [] [] = true
same_bytes [] (y ∷ ys) = false
same_bytes (x ∷ xs) [] = false
same_bytes (x ∷ xs) (y ∷ ys) = x == y && same_bytes xs ys

-- nothing was written, and the lent buffer holds zeros
pub record Untouched (s : State) (room : ℕ) (buffer : List ℕ) (t : State) : Type 0 where
  pub state : t ≡ s
  pub zero : buffer ≡ zeros room

-- ---- issue: of the bytes `plain`, into a ticket buffer of `room` bytes, with `marks` bytes of marks
abbrev pub issuable : ℕ → Result Sound Halt → Result Sound Halt
issuable d (Err h) = Err h
issuable d (Ok f) = cond (nat_lt f.0.issued (2 ^ d)) (Ok f) (Err (plainly Exhausted))

-- what stops an issue before it writes, or the file
abbrev pub issue_verdict : Kit → ℕ → State → List ℕ → ℕ → ℕ → Result Sound Halt
issue_verdict k d s plain room marks =
    entered (entry_verdict d s.slots max_ticket room marks) (cond (is_record plain) (issuable d (read_by k d s)) (Err (plainly NotARecord)))

-- the ticket of the next number, from a record x that covers it
abbrev pub issued_ticket : Kit → ℕ → Head → Link → List ℕ → List ℕ
issued_ticket k d h x plain = ticket_of k h.name h.issued (key_from k.generator.expansion d x.node x.value h.issued) plain

-- `headed` says whether the head's write stands
pub data Issuing (k : Kit) (d : ℕ) (s : State) (plain : List ℕ) (room marks : ℕ) (r : Outcome) (ticket : List ℕ) (t : State) (headed : Bool) : Type 0 where
  declined : (h : Halt) → issue_verdict k d s plain room marks ≡ Err h → r ≡ Err h → Untouched s room ticket t → headed ≡ false →
      Issuing k d s plain room marks r ticket t headed
  cut : (f : Sound) (m : ℕ) (h : Halt) → issue_verdict k d s plain room marks ≡ Ok f →
      CutShort s.slots (issue_write s.slots f.0 ∷ []) m h t.slots → r ≡ Err h → t.power ≡ false → ticket ≡ zeros room → headed ≡ nat_lt 0 m →
      Issuing k d s plain room marks r ticket t headed
  given : (f : Sound) (x : Link) → issue_verdict k d s plain room marks ≡ Ok f → In x f.1 → Covers d x.node f.0.issued →
      Finished d x.node f.0.issued (length (issued_ticket k d f.0 x plain)) r → ticket ≡ filled (issued_ticket k d f.0 x plain) room →
      t.slots ≡ stood s.slots (issue_write s.slots f.0 ∷ []) → t.power ≡ true → headed ≡ true →
      Issuing k d s plain room marks r ticket t headed

-- ---- redeem: of the bytes `ticket`, into a state buffer of `room` bytes, with `marks` bytes of marks
abbrev pub redeemable : Kit → List ℕ → Result Sound Halt → Result Sound Halt
redeemable k ticket (Err h) = Err h
redeemable k ticket (Ok f) =
    cond (ticket_fits k.sealer.overhead (length ticket))
    (cond (same_bytes (name_in ticket) f.0.name)
    (cond (nat_lt (number_in ticket) f.0.issued) (Ok f) (Err (placed NotIssued (number_in ticket))))
    (Err (plainly OtherName)))
    (Err (plainly TicketLength))

-- what stops a redemption before the chain is searched, or the file
abbrev pub redeem_verdict : Kit → ℕ → State → List ℕ → ℕ → ℕ → Result Sound Halt
redeem_verdict k d s ticket room marks = entered (entry_verdict d s.slots max_record room marks) (redeemable k ticket (read_by k d s))

-- the record x of the chain covers the ticket's number; front and back are the chain before and after it
pub record Hit (k : Kit) (d : ℕ) (s : State) (ticket : List ℕ) (room marks : ℕ) (f : Sound) (front : List Link) (x : Link) (back : List Link) : Type 0 where
  pub verdict : redeem_verdict k d s ticket room marks ≡ Ok f
  pub chain : f.1 ≡ front ++ (x ∷ back)
  pub covers : Covers d x.node (number_in ticket)

-- the plain is sealed in the ticket, under the key that follows from the record x
pub record Seals (k : Kit) (d : ℕ) (ticket : List ℕ) (x : Link) (plain : List ℕ) : Type 0 where
  pub short : length plain ≤ max_record
  pub sealing : k.sealer.sealing (key_from k.generator.expansion d x.node x.value (number_in ticket)) (heading_in ticket) plain ≡ sealed_in ticket

-- the links that come in for x: in the slots fs, the siblings on the way down to n with the values that follow from x's
abbrev pub new_links : Kit → ℕ → Link → ℕ → List ℕ → List Link
new_links k d x n fs = links_in fs (valued (value_from k.generator.expansion d x.node x.value) (siblings_from d x.node n))

-- all is there for a puncture, which takes the free slots fs: which these are is left open
pub record Ready (k : Kit) (d : ℕ) (s : Slots) (f : Sound) (x : Link) (plain : List ℕ) (fs : List ℕ) : Type 0 where
  pub record' : is_record plain ≡ true
  pub room : d - x.node.depth ≤ free_count s f.1
  pub free : FreeSlots s f.1 fs
  pub many : length fs ≡ d - x.node.depth

-- `joined` says whether the join's write stands
pub data Redeeming (k : Kit) (d : ℕ) (s : State) (ticket : List ℕ) (room marks : ℕ) (r : Outcome) (state : List ℕ) (t : State) (joined : Bool) : Type 0 where
  declined : (h : Halt) → redeem_verdict k d s ticket room marks ≡ Err h → r ≡ Err h → Untouched s room state t → joined ≡ false →
      Redeeming k d s ticket room marks r state t joined
  spent : (f : Sound) → redeem_verdict k d s ticket room marks ≡ Ok f → ((x : Link) → In x f.1 → Covers d x.node (number_in ticket) → ⊥) →
      r ≡ Err (placed Spent (number_in ticket)) → Untouched s room state t → joined ≡ false →
      Redeeming k d s ticket room marks r state t joined
  shut : (f : Sound) (front : List Link) (x : Link) (back : List Link) → Hit k d s ticket room marks f front x back →
      ((plain : List ℕ) → Seals k d ticket x plain → ⊥) →
      r ≡ Err (placed SealBroken (number_in ticket)) → Untouched s room state t → joined ≡ false →
      Redeeming k d s ticket room marks r state t joined
  strange : (f : Sound) (front : List Link) (x : Link) (back : List Link) (plain : List ℕ) → Hit k d s ticket room marks f front x back →
      Seals k d ticket x plain → is_record plain ≡ false →
      r ≡ Err (placed OpenedNotARecord (number_in ticket)) → Untouched s room state t → joined ≡ false →
      Redeeming k d s ticket room marks r state t joined
  full : (f : Sound) (front : List Link) (x : Link) (back : List Link) (plain : List ℕ) → Hit k d s ticket room marks f front x back →
      Seals k d ticket x plain → is_record plain ≡ true → free_count s.slots f.1 < d - x.node.depth →
      r ≡ Err (placed NoFreeSlot (number_in ticket)) → Untouched s room state t → joined ≡ false →
      Redeeming k d s ticket room marks r state t joined
  cut : (f : Sound) (front : List Link) (x : Link) (back : List Link) (plain : List ℕ) (fs : List ℕ) (m : ℕ) (h : Halt) →
      Hit k d s ticket room marks f front x back → Seals k d ticket x plain → Ready k d s.slots f x plain fs →
      CutShort s.slots (redeem_writes s.slots front x back (new_links k d x (number_in ticket) fs)) m h t.slots → r ≡ Err h → t.power ≡ false → state ≡ zeros room →
      joined ≡ nat_lt (d - x.node.depth) m →
      Redeeming k d s ticket room marks r state t joined
  opened : (f : Sound) (front : List Link) (x : Link) (back : List Link) (plain : List ℕ) (fs : List ℕ) →
      Hit k d s ticket room marks f front x back → Seals k d ticket x plain → Ready k d s.slots f x plain fs →
      t.slots ≡ stood s.slots (redeem_writes s.slots front x back (new_links k d x (number_in ticket) fs)) → t.power ≡ true → joined ≡ true →
      Finished d x.node (number_in ticket) (length plain) r → state ≡ filled plain room →
      Redeeming k d s ticket room marks r state t joined

-- ---- reopen, with `marks` bytes of marks
abbrev pub reopen_verdict : ℕ → Slots → ℕ → Result (Unit {0}) Halt
reopen_verdict d s marks = entry_verdict d s 0 0 marks

pub data Reopening (k : Kit) (d : ℕ) (s : State) (marks : ℕ) (r : Result (Unit {0}) Halt) (t : State) : Type 0 where
  declined : (h : Halt) → reopen_verdict d s.slots marks ≡ Err h → r ≡ Err h → t ≡ s → Reopening k d s marks r t
  stopped : reopen_verdict d s.slots marks ≡ Ok tt → r ≡ Err (unpowered 0 Restart) → t.slots ≡ s.slots → t.power ≡ false → Reopening k d s marks r t
  faulty : (h : Halt) → reopen_verdict d s.slots marks ≡ Ok tt → read_by k d (powered s.slots) ≡ Err h → r ≡ Err h → t.slots ≡ s.slots → t.power ≡ true → Reopening k d s marks r t
  cut : (f : Sound) (m : ℕ) (h : Halt) → reopen_verdict d s.slots marks ≡ Ok tt → read_by k d (powered s.slots) ≡ Ok f → CutShort s.slots (sweep_writes s.slots f.1) m h t.slots → r ≡ Err h → t.power ≡ false →
      Reopening k d s marks r t
  swept : (f : Sound) → reopen_verdict d s.slots marks ≡ Ok tt → read_by k d (powered s.slots) ≡ Ok f → t.slots ≡ stood s.slots (sweep_writes s.slots f.1) → r ≡ Ok tt → t.power ≡ true →
      Reopening k d s marks r t

-- ---- make, of a root value under a key name; `headed` says whether the head's write stands
pub data Making (k : Kit) (d : ℕ) (s : State) (root name : List ℕ) (r : Result (Unit {0}) Halt) (t : State) (headed : Bool) : Type 0 where
  declined : count_fits d s.slots ≡ false → r ≡ Err (plainly SlotCount) → t ≡ s → headed ≡ false → Making k d s root name r t headed
  stopped : count_fits d s.slots ≡ true → r ≡ Err (unpowered 0 Restart) → t.slots ≡ s.slots → t.power ≡ false → headed ≡ false → Making k d s root name r t headed
  cut : (m : ℕ) (h : Halt) → count_fits d s.slots ≡ true → CutShort s.slots (make_writes k d s.slots root name) m h t.slots → r ≡ Err h → t.power ≡ false → headed ≡ nat_lt (length s.slots + 1) m →
      Making k d s root name r t headed
  made : count_fits d s.slots ≡ true → t.slots ≡ stood s.slots (make_writes k d s.slots root name) → r ≡ Ok tt → t.power ≡ true → headed ≡ true → Making k d s root name r t headed

-- the buffer of a call that was stopped holds zeros
abbrev pub kept : Outcome → ℕ → List ℕ → List ℕ
kept (Ok a) room out = out
kept (Err h) room out = zeros room
