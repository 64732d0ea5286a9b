-- What a row of slots is said to hold is a member of it, and the other way round.
use Rattle.std.proofs.Common.{◌≡◌, ℕ, true, false, eqb, List, [], ◌∷◌, sym, refl, inl, inr}
use Rattle.std.proofs.lemmas.Bool.{both_ways, or_cases, or_left, or_right, eq-eqb, eqb-true}
use Rattle.tree.specs.Cover.{In}
use Rattle.calls.specs.Files.{holds}

pub holds_in : (ps : List ℕ) (i : ℕ) → holds ps i ≡ true → In i ps
holds_in [] i e = absurd (both_ways false refl e)
holds_in (p ∷ ps) i e = elim (or_cases (eqb p i) (holds ps i) e) [ inl a ↦ inl (sym (eqb-true p i a)) | inr a ↦ inr (holds_in ps i a) ]

pub in_holds : (ps : List ℕ) (i : ℕ) → In i ps → holds ps i ≡ true
in_holds [] i m = absurd m
in_holds (p ∷ ps) i (inl e) = or_left (eqb p i) (holds ps i) (eq-eqb p i (sym e))
in_holds (p ∷ ps) i (inr m) = or_right (eqb p i) (holds ps i) (in_holds ps i m)
