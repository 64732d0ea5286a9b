-- Hash values of messages that are put together from parts.
use Rattle.std.proofs.Common.{◌≡◌, ℕ, zero, suc, ◌+◌, ◌*◌, ◌<◌, ◌≤◌, List, [], ◌∷◌, ◌++◌, length, get_or, drop, refl, add-suc, arith, length-drop, le_of_suc-le-suc, not-suc-le-zero}
use Rattle.std.specs.List.{flat_map}
use Rattle.std.proofs.lemmas.List.{take-append-le, drop-append-le, drop-drop, drop_at, take_at}
use Rattle.sha.specs.Digest.{block_at, absorbed}

-- a block of m is a block of m and what follows
block_left : (m p : List ℕ) (i : ℕ) → 64 * i + 64 ≤ length m → block_at (m ++ p) i ≡ block_at m i
unfolding block_at
block_left m p i h = rw (drop-append-le (64 * i) m p (omega arith), take-append-le 64 (drop (64 * i) m) p (simp length-drop (omega arith)))

-- a block of p is a later block of m ++ p, where m is whole blocks
block_right : (m p : List ℕ) (q i : ℕ) → length m ≡ 64 * q → block_at (m ++ p) (q + i) ≡ block_at p i
unfolding block_at
block_right m p q i e =
    let s : 64 * (q + i) ≡ 64 * q + 64 * i = omega arith in
    rw (s, ← drop-drop (64 * i) (64 * q) (m ++ p), drop_at m p (64 * q) e)

-- what follows m does not matter to the blocks of m
pub absorbed_left : (h m p : List ℕ) (n : ℕ) → 64 * n ≤ length m → absorbed h (m ++ p) n ≡ absorbed h m n
unfolding absorbed
absorbed_left h m p zero l = refl
absorbed_left h m p (suc n) l = grind (arith, block_left, absorbed_left h m p n)

-- after whole blocks m, the blocks of p come from the hash value of m on
pub absorbed_right : (h m p : List ℕ) (q n : ℕ) → length m ≡ 64 * q → absorbed h (m ++ p) (q + n) ≡ absorbed (absorbed h m q) p n
unfolding absorbed
absorbed_right h m p q zero e = grind (arith, absorbed_left)
absorbed_right h m p q (suc n) e = rw (add-suc, absorbed_right h m p q n e, block_right m p q n e)

-- block k of whole blocks joined
pub block_of : (bs : List (List ℕ)) (k : ℕ) → ((i : ℕ) → i < length bs → length (get_or bs i []) ≡ 64) → k < length bs → block_at (flat_map (λ x. x) bs) k ≡ get_or bs k []
unfolding block_at
block_of [] k all h = absurd (not-suc-le-zero h)
block_of (b ∷ bs) zero all h = take_at b (flat_map (λ x. x) bs) 64 (all 0 (omega arith))
block_of (b ∷ bs) (suc k) all h =
    let s : suc k ≡ 1 + k = omega arith in
    rw (s, block_right b (flat_map (λ x. x) bs) 1 k (all 0 (omega arith))) (block_of bs k (λ i l. all (suc i) (omega arith)) (le_of_suc-le-suc h))
