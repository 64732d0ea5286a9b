-- The examples.
use Rattle.std.proofs.Common.{◌≡◌, ℕ, zero, suc, ◌^◌, ◌<◌, [], refl, inl, inr, arith}
use Rattle.std.proofs.lemmas.Bool.{cases_eq}
use Rattle.tree.specs.Cover.{In, cover}
use Rattle.tree.specs.Examples.{down_from, Examples}
use Rattle.tree.proofs.Exact.{exhausted}

in_down : (n k : ℕ) → k < n → In k (down_from n)
unfolding down_from
in_down zero k h = absurd (omega arith)
in_down (suc n) k h = elim (cases_eq k n) [ inl q ↦ inl q | inr f ↦ inr (in_down n k (omega (arith, f))) ]

all_spent : (d : ℕ) → cover d (down_from (2 ^ d)) ≡ []
all_spent d = exhausted d (down_from (2 ^ d)) (λ n h. in_down (2 ^ d) n h)

pub examples : Examples
examples =
    record {
      widest = refl;
      narrowest = refl;
      none_spent = refl;
      zero_spent = refl;
      two_spent = refl;
      five_count = refl;
      five_front = refl;
      ends_count = refl;
      all_spent = all_spent 16;
    }
