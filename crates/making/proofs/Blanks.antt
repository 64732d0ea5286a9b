-- Zeros to every slot, one write after another.
use Rattle.std.proofs.Common.{◌≡◌, ℕ, zero, suc, ◌+◌, ◌-◌, ◌<◌, [], ◌∷◌, ◌++◌, length, Ok, Err, Result, ap, sym, ◌∙◌, suc-add, zero-add, arith}
use Rattle.device.specs.Effects.{Slots, State, blank}
use Rattle.fault.specs.declared.Halt.{Halt}
use Rattle.fault.specs.declared.Step.TheVariants.{Make}
use Rattle.steps.specs.OneStep.{write_of, Stepped}
use Rattle.steps.specs.Writes.{Wrote}
use Rattle.steps.proofs.Plans.{ran_next, ran_cut, ran_as, ran_wrote, wrote_ran, wrote_none}
use Rattle.calls.specs.Files.{blank_writes}

blank_split : (i a b : ℕ) → blank_writes i (a + b) ≡ blank_writes i a ++ blank_writes (i + a) b
blank_split i zero b = grind arith
blank_split i (suc a) b =
    rw suc-add (let e : suc i + a ≡ i + suc a = omega arith in ap (λ x. write_of i blank Make ∷ x) (rw e at (blank_split (suc i) a b)))

blank_more : (n : ℕ) → blank_writes 0 (n + 1) ≡ blank_writes 0 n ++ (write_of n blank Make ∷ [])
blank_more n = rw zero-add at (blank_split 0 n 1)

blank_around : (n i : ℕ) → i < n → blank_writes 0 n ≡ (blank_writes 0 i ++ (write_of i blank Make ∷ [])) ++ blank_writes (i + 1) (n - (i + 1))
blank_around n i h =
    ap (blank_writes 0) (omega arith) ∙ rw (blank_more i, zero-add) at (blank_split 0 (i + 1) (n - (i + 1)))

-- with the first i slots zero: the write to slot i is done
pub blanked : (s : Slots) (i : ℕ) (t v : State) → Wrote s (blank_writes 0 i) (Ok tt) t → i < length s → Stepped t (write_of i blank Make) (Ok tt) v → Wrote s (blank_writes 0 (i + 1)) (Ok tt) v
blanked s i t v a lt d = wrote_ran (ran_as (sym (blank_more i)) (ran_next (write_of i blank Make) (ran_wrote a) lt d))

-- and is cut
pub blank_cut : (s : Slots) (n i : ℕ) (t v : State) (h : Halt) (r : Result (Unit {0}) Halt) → Wrote s (blank_writes 0 i) (Ok tt) t → i < n → n ≡ length s → r ≡ Err h → Stepped t (write_of i blank Make) r v →
    Wrote s (blank_writes 0 n) r v
blank_cut s n i t v h r a lt many e d =
    let l : i < length s = omega arith in
    rw e (wrote_ran (ran_as (sym (blank_around n i lt)) (ran_cut _ (ran_next (write_of i blank Make) (ran_wrote a) l (rw e at d)))))

pub ruleset blanking = (wrote_none, blanked, blank_cut)
