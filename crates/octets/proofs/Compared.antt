-- Two rows of one length, and the bits in which they differ.
use Rattle.std.proofs.Common.{◌≡◌, ℕ, List, [], ◌∷◌, length, refl, ap, ◌∙◌, arith}
use Rattle.std.specs.List.{fold, zip}
use lib.Bits.{bit_or, bit_xor, or_add_and, and_le_l, and_le_r, xor_assoc, xor_self, xor_zero_l, xor_zero_r}
use Rattle.octets.specs.Buffers.{differing}

no_bits : (d a b : ℕ) → bit_or d (bit_xor a b) ≡ 0 → (d ≡ 0) × (a ≡ b)
no_bits d a b e =
    let x = bit_xor a b in
    grind (arith, or_add_and d x, and_le_l d x, and_le_r d x, xor_assoc a a b, xor_self a, xor_zero_l b, xor_zero_r a)

-- where no bits differ, none did before, and the rows are one
pub both_zero : (d : ℕ) (xs ys : List ℕ) → length xs ≡ length ys → fold differing d (zip xs ys) ≡ 0 → (d ≡ 0) × (xs ≡ ys)
both_zero d [] [] l e = (e, refl)
both_zero d [] (y ∷ ys) l e = grind arith
both_zero d (x ∷ xs) [] l e = grind arith
both_zero d (x ∷ xs) (y ∷ ys) l e =
    grind (arith, both_zero (bit_or d (bit_xor x y)) xs ys, no_bits d x y)

-- a row does not differ from itself
pub differing_self : (xs : List ℕ) → fold differing 0 (zip xs xs) ≡ 0
differing_self [] = refl
differing_self (x ∷ xs) = ap (λ d. fold differing d (zip xs xs)) (xor_self x) ∙ differing_self xs
