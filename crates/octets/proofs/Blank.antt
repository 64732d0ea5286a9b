-- A blank row is a row of zeros, and the other way round.
use Rattle.std.proofs.Common.{◌≡◌, ℕ, zero, suc, true, List, [], ◌∷◌, length, refl, arith}
use Rattle.octets.specs.Buffers.{zeros, is_blank}

pub zeros_from_blank : (xs : List ℕ) → is_blank xs ≡ true → xs ≡ zeros (length xs)
zeros_from_blank [] e = refl
zeros_from_blank (x ∷ xs) e = grind (arith, zeros_from_blank xs)

pub blank_from_zeros : (n : ℕ) → is_blank (zeros n) ≡ true
blank_from_zeros zero = refl
blank_from_zeros (suc n) = blank_from_zeros n
