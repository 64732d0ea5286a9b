-- The parts of reopening, and what it does, as one word.
use Rattle.std.specs.Prelude.{◌≡◌, ℕ, Bool, cond, ◌||◌, List, [], ◌∷◌, Ok, Result}
use Rattle.octets.specs.Buffers.{is_blank}
use Rattle.device.specs.Effects.{Slot, State, blank}
use Rattle.fault.specs.declared.Halt.{Halt}
use Rattle.fault.specs.declared.Step.TheVariants.{Sweep}
use Rattle.steps.specs.OneStep.{Write, write_of}
use Rattle.layout.specs.declared.Numbers.{Numbers}
use Rattle.calls.specs.Kits.{Kit, numbers_in}
use Rattle.calls.specs.Calls.{reopen_verdict, Reopening}

-- the write that sweeps slot i, which holds the bytes b: none where the slot is kept or zero
abbrev pub sweep_at : Bool → ℕ → Slot → List Write
sweep_at kept i b = cond (kept || is_blank b) [] (write_of i blank Sweep ∷ [])

-- ---- words that the check does not open, so it finds lemmas about reopening by them
unfoldable pub Reopens : Kit → ℕ → State → ℕ → Result (Unit {0}) Halt → State → Type 0
Reopens k d s marks r t = Reopening k d s marks r t

-- what is left of a reopening once the device was restarted to u, by a server with these numbers
unfoldable pub GoesOn : ℕ → State → Numbers → ℕ → Result (Unit {0}) Halt → State → Type 0
GoesOn d u numbers marks r t = (k : Kit) (s : State) → numbers_in k ≡ numbers → reopen_verdict d s.slots marks ≡ Ok tt → u.slots ≡ s.slots → Reopening k d s marks r t
