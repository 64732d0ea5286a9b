-- Making, from its steps.
use Rattle.std.proofs.Common.{◌≡◌, ℕ, ◌+◌, Bool, true, false, ltb, List, length, Err, Result, refl, ap, ◌∙◌}
use Rattle.device.specs.Effects.{State}
use Rattle.fault.specs.declared.Halt.{Halt}
use Rattle.fault.specs.declared.Step.TheVariants.{Restart}
use Rattle.fault.specs.Faults.{unpowered}
use Rattle.steps.specs.Writes.{Ran, through, failed, Wrote}
use Rattle.steps.proofs.Plans.{ran_wrote}
use Rattle.calls.specs.Kits.{Kit}
use Rattle.calls.specs.Files.{make_writes}
use Rattle.calls.specs.Calls.{count_fits, Fitting, Making, declined, stopped, made, cut}
use Rattle.making.specs.Parts.{Makes}

module _ (k : Kit) (d : ℕ) (s : State) (root name : List ℕ) (r : Result (Unit {0}) Halt) (t : State) where
  pub made_none : (h : Halt) → Fitting d s.slots (Err h) → r ≡ Err h → t ≡ s → Makes k d s root name r t
  unfolding Makes
  made_none h f e a = (false, declined f.0 (e ∙ ap Err f.1) a refl)

  pub made_off : count_fits d s.slots ≡ true → r ≡ Err (unpowered 0 Restart) → t.slots ≡ s.slots → t.power ≡ false → Makes k d s root name r t
  unfolding Makes
  made_off f e a o = (false, stopped f e a o refl)

  ran_made : count_fits d s.slots ≡ true → Ran s.slots (make_writes k d s.slots root name) r t → (headed : Bool) × Making k d s root name r t headed
  ran_made f (through e a o) = (true, made f a e o refl)
  ran_made f (failed m h e c o) = (ltb (length s.slots + 1) m, cut m h f c e o refl)

  pub made_laid : count_fits d s.slots ≡ true → Wrote s.slots (make_writes k d s.slots root name) r t → Makes k d s root name r t
  unfolding Makes
  made_laid f a = ran_made f (ran_wrote a)

pub ruleset making = (made_none, made_off, made_laid)
