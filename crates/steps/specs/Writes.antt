-- The writes of a call, one after another, and what the slots hold when some of them stand.
-- A write that is done stands; so does one that is cut and leaves the new bytes in its slot.
use Rattle.std.specs.Prelude.{◌≡◌, ℕ, suc, true, false, ◌⊎◌, List, ◌∷◌, ◌++◌, length, take, Ok, Err, Result, slice_set}
use Rattle.std.specs.List.{fold}
use Rattle.device.specs.Effects.{Slots, State}
use Rattle.fault.specs.declared.Halt.{Halt}
use Rattle.fault.specs.Faults.{unpowered}
use Rattle.steps.specs.OneStep.{Write}

-- the slots once all of the writes stand
abbrev pub stood : Slots → List Write → Slots
stood = fold (λ s w. slice_set s w.slot w.bytes)

-- the power fails at one of the writes: all before it are done, it stands or not, none after it is tried; the first m stand
pub record CutShort (s : Slots) (ws : List Write) (m : ℕ) (h : Halt) (t : Slots) : Type 0 where
  pub front : List Write
  pub cut : Write
  pub back : List Write
  pub are : ws ≡ front ++ (cut ∷ back)
  pub stand : (m ≡ length front) ⊎ (m ≡ suc (length front))
  pub slots : t ≡ stood s (take m ws)
  pub halt : h ≡ unpowered cut.slot cut.step

-- the writes made one after another from the slots s on, with the power on: all are done, or the power fails at one
pub data Ran (s : Slots) (ws : List Write) (r : Result (Unit {0}) Halt) (t : State) : Type 0 where
  through : r ≡ Ok tt → t.slots ≡ stood s ws → t.power ≡ true → Ran s ws r t
  failed : (m : ℕ) (h : Halt) → r ≡ Err h → CutShort s ws m h t.slots → t.power ≡ false → Ran s ws r t

-- the same as one word, which the check does not open: so it finds lemmas about writes by it
unfoldable pub Wrote : Slots → List Write → Result (Unit {0}) Halt → State → Type 0
Wrote s ws r t = Ran s ws r t
