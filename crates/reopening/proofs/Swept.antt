-- Sweeping, slot by slot.
use Rattle.std.proofs.Common.{◌≡◌, ℕ, suc, ◌+◌, ◌-◌, ◌<◌, ◌≤◌, Bool, true, false, cond, ◌||◌, ◌≢◌, List, [], ◌∷◌, ◌++◌, length, get_or, take, drop, Ok, Err, Result, sym, refl, ap, ◌∙◌, append_assoc, append-nil, arith, length-drop, take-append-drop, take_all}
use Rattle.std.proofs.lemmas.List.{take_more, length-take-le, get_or-drop, get_or-set_other}
use Rattle.device.specs.Effects.{Slot, Slots, State, blank}
use Rattle.fault.specs.declared.Halt.{Halt}
use Rattle.fault.specs.declared.Step.TheVariants.{Sweep}
use Rattle.octets.specs.Buffers.{zeros, is_blank}
use Rattle.marks.specs.Rows.{room_of, is_marked}
use Rattle.chain.specs.Reading.{Link, slots_of}
use Rattle.chain.specs.Listing.{marked_all}
use Rattle.steps.specs.OneStep.{Write, write_of, Stepped}
use Rattle.steps.specs.Writes.{stood, Wrote}
use Rattle.calls.specs.Files.{holds, sweep_from, sweep_writes}
use Rattle.steps.proofs.Plans.{done_slots, stood_append, ran_one, ran_then, ran_cut, ran_as, done_power, done_long, ran_wrote, wrote_ran, wrote_none}
use Rattle.reopening.specs.Sweeps.{sweep_at}
use Rattle.reopening.proofs.Marked.{marked_is}

-- ---- one slot
pub one_swept : (s t : State) (kept : Bool) (i : ℕ) (b : Slot) (r : Result (Unit {0}) Halt) → kept ≡ false → is_blank b ≡ false → i < length s.slots →
    Stepped s (write_of i blank Sweep) r t → Wrote s.slots (sweep_at kept i b) r t
one_swept s t kept i b r e f lt w =
    rw (e, f) (wrote_ran (ran_one s t (write_of i blank Sweep) r lt w))

pub ruleset one = (wrote_none, one_swept)

-- ---- a row of slots
sweep_split : (i : ℕ) (cs bs : Slots) (ps : List ℕ) → sweep_from i (cs ++ bs) ps ≡ sweep_from i cs ps ++ sweep_from (i + length cs) bs ps
sweep_split i [] bs ps = grind arith
sweep_split i (c ∷ cs) bs ps =
    let e : suc i + length cs ≡ i + suc (length cs) = omega arith in
    rw (← e, append_assoc) (ap (λ x. sweep_at (holds ps i) i c ++ x) (sweep_split (suc i) cs bs ps))

sweep_more : (bs : Slots) (ps : List ℕ) (j : ℕ) → j < length bs → sweep_from 1 (take (j + 1) bs) ps ≡ sweep_from 1 (take j bs) ps ++ sweep_at (holds ps (1 + j)) (1 + j) (get_or bs j [])
sweep_more bs ps j lt =
    let le : j ≤ length bs = omega arith in
    rw (take_more bs j [] lt) (rw (length-take-le j bs le, append-nil) at (sweep_split 1 (take j bs) (get_or bs j [] ∷ []) ps))

kept_one : (t : Bool) (i k : ℕ) (s : Slots) → k ≢ i → get_or (stood s (cond t [] (write_of i blank Sweep ∷ []))) k [] ≡ get_or s k []
kept_one true i k s ne = refl
kept_one false i k s ne = get_or-set_other s i k blank [] ne

-- sweeping does not change the slots after those that it goes over
kept_after : (i : ℕ) (bs : Slots) (ps : List ℕ) (s : Slots) (k : ℕ) → i + length bs ≤ k → get_or (stood s (sweep_from i bs ps)) k [] ≡ get_or s k []
kept_after i [] ps s k h = refl
kept_after i (b ∷ bs) ps s k h =
    let h' : suc i + length bs ≤ k = omega arith in
    let ne : k ≢ i = omega arith in
    rw stood_append (kept_after (suc i) bs ps (stood s (sweep_at (holds ps i) i b)) k h' ∙ kept_one (holds ps i || is_blank b) i k s ne)

-- ---- the slots before i
unfoldable pub sofar : Slots → List Link → ℕ → List Write
sofar s xs i = sweep_from 1 (take (i - 1) (drop 1 s)) (slots_of xs)

pub sofar_none : (s : Slots) (xs : List Link) (t : State) → t.slots ≡ s → t.power ≡ true → Wrote s (sofar s xs 1) (Ok tt) t
unfolding sofar
sofar_none s xs t e o = wrote_none s t e o

sofar_more : (s : Slots) (xs : List Link) (i : ℕ) → 1 ≤ i → i < length s → sofar s xs (i + 1) ≡ sofar s xs i ++ sweep_at (holds (slots_of xs) i) i (get_or s i [])
unfolding sofar
sofar_more s xs i pos lt = grind (arith, sweep_more, get_or-drop)

sofar_within : (s : Slots) (xs : List Link) (i : ℕ) → (ws : List Write) × (sofar s xs i ++ ws ≡ sweep_writes s xs)
unfolding sofar
sofar_within s xs i =
    (sweep_from (1 + length (take (i - 1) (drop 1 s))) (drop (i - 1) (drop 1 s)) (slots_of xs), rw take-append-drop at (sym (sweep_split 1 (take (i - 1) (drop 1 s)) (drop (i - 1) (drop 1 s)) (slots_of xs))))

sofar_all : (s : Slots) (xs : List Link) (i : ℕ) → length s ≤ i → sofar s xs i ≡ sweep_writes s xs
unfolding sofar
sofar_all s xs i le =
    let l : length (drop 1 s) ≤ i - 1 = omega (arith, length-drop 1 s) in
    rw (take_all (i - 1) (drop 1 s) l)

kept_sofar : (s : Slots) (xs : List Link) (i : ℕ) → 1 ≤ i → i < length s → get_or (stood s (sofar s xs i)) i [] ≡ get_or s i []
unfolding sofar
kept_sofar s xs i pos lt =
    let le : i - 1 ≤ length (drop 1 s) = omega (arith, length-drop 1 s) in
    kept_after 1 (take (i - 1) (drop 1 s)) (slots_of xs) s i (omega (arith, length-take-le (i - 1) (drop 1 s) le))

-- one slot more: its bytes are still those of the start
pub swept_more : (s : Slots) (xs : List Link) (i : ℕ) (t v : State) (row : List ℕ) (n : ℕ) (r : Result (Unit {0}) Halt) → length s ≡ n → 1 ≤ i → i < n →
    row ≡ marked_all (zeros (length row)) xs → room_of n ≤ length row →
    Wrote s (sofar s xs i) (Ok tt) t → Wrote t.slots (sweep_at (is_marked row i) i (get_or t.slots i [])) r v → Wrote s (sofar s xs (i + 1)) r v
swept_more s xs i t v row n r many pos lt e long a b =
    let within : i < length s = omega arith in
    let same : get_or t.slots i [] ≡ get_or s i [] = ap (λ x. get_or x i []) (done_slots (ran_wrote a)) ∙ kept_sofar s xs i pos within in
    wrote_ran (ran_as (sym (sofar_more s xs i pos within)) (ran_then (ran_wrote a) (rw (marked_is n i lt row xs e long, same) at (ran_wrote b))))

pub swept_cut : (s : Slots) (xs : List Link) (i : ℕ) (t v : State) (row : List ℕ) (n : ℕ) (h : Halt) (r : Result (Unit {0}) Halt) → length s ≡ n → 1 ≤ i → i < n →
    row ≡ marked_all (zeros (length row)) xs → room_of n ≤ length row →
    Wrote s (sofar s xs i) (Ok tt) t → Wrote t.slots (sweep_at (is_marked row i) i (get_or t.slots i [])) (Err h) v → r ≡ Err h → Wrote s (sweep_writes s xs) r v
swept_cut s xs i t v row n h r many pos lt e long a b q =
    let w = sofar_within s xs (i + 1) in
    rw q (wrote_ran (ran_as w.1 (ran_cut w.0 (ran_wrote (swept_more s xs i t v row n (Err h) many pos lt e long a b)))))

pub swept_all : (s : Slots) (xs : List Link) (i : ℕ) (r : Result (Unit {0}) Halt) (t : State) → length s ≤ i → Wrote s (sofar s xs i) r t → Wrote s (sweep_writes s xs) r t
swept_all s xs i r t le a = wrote_ran (ran_as (sofar_all s xs i le) (ran_wrote a))

pub wrote_power : (s : Slots) (ws : List Write) (t : State) → Wrote s ws (Ok tt) t → t.power ≡ true
wrote_power s ws t a = done_power (ran_wrote a)

pub wrote_long : (s : Slots) (ws : List Write) (t : State) → Wrote s ws (Ok tt) t → length t.slots ≡ length s
wrote_long s ws t a = done_long (ran_wrote a)

pub ruleset sweeping = (sofar_none, swept_more, swept_cut, swept_all, wrote_power, wrote_long)
