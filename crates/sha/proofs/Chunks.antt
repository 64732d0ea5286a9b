-- Whole blocks joined.
use Rattle.std.proofs.Common.{◌≡◌, ℕ, zero, suc, ◌+◌, ◌*◌, List, ◌++◌, drop, refl, arith, append_assoc}
use Rattle.std.specs.Simd.{first_chunks}
use Rattle.std.specs.List.{flat_map}
use Rattle.std.proofs.lemmas.List.{drop-drop, take-append-drop}

-- whole blocks joined, and what is left
pub blocks_split : (k : ℕ) (xs : List ℕ) → flat_map (λ x. x) (first_chunks 64 k xs) ++ drop (k * 64) xs ≡ xs
blocks_split zero xs = refl
blocks_split (suc k) xs =
    let far : suc k * 64 ≡ 64 + k * 64 = omega arith in
    rw (far, append_assoc, ← drop-drop (k * 64) 64 xs, blocks_split k (drop 64 xs)) (take-append-drop 64 xs)
