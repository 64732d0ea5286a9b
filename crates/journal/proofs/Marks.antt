-- What a mark tells when a write of it tears.
use Rattle.std.specs.Prelude.{◌≡◌, ℕ, zero, suc, ◌⊎◌, List, ◌∷◌, Some, None, refl}
use Rattle.std.proofs.Common.{ap, inl, inr, arith}
use Rattle.std.proofs.lemmas.List.{take-append-drop}
use Rattle.device.specs.Effects.{Slot, torn}
use Rattle.journal.specs.Layout.{mark_of, pending_in}

pub pending_in_raised : (i : ℕ) → pending_in (mark_of 1 i) ≡ Some i
pending_in_raised i = ap Some (omega arith)

-- a mark with no flag over one whose copy stands for none: it still stands for none
pub torn_low : (m : ℕ) (rest : List ℕ) (old : Slot) → pending_in old ≡ None → pending_in (torn m old (0 ∷ rest)) ≡ None
torn_low zero rest old e = e
torn_low (suc m) rest old e = refl

-- the flag alone over the same mark without it: the old mark or the new one
pub torn_raise : (m : ℕ) (rest : List ℕ) → (torn m (0 ∷ rest) (1 ∷ rest) ≡ 0 ∷ rest) ⊎ (torn m (0 ∷ rest) (1 ∷ rest) ≡ 1 ∷ rest)
torn_raise zero rest = inl refl
torn_raise (suc m) rest = grind (arith, take-append-drop)

-- a mark with no flag over any other: the old mark, or one whose copy stands for none
pub torn_clear : (m : ℕ) (rest : List ℕ) (old : Slot) → (torn m old (0 ∷ rest) ≡ old) ⊎ (pending_in (torn m old (0 ∷ rest)) ≡ None)
torn_clear zero rest old = inl refl
torn_clear (suc m) rest old = inr refl
