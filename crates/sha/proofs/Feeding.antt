-- What feeding a part does to the meaning of a hash in progress.
use Rattle.std.proofs.Common.{◌≡◌, ℕ, suc, ◌+◌, ◌-◌, ◌*◌, ◌/◌, ◌%◌, ◌^◌, ◌<◌, ◌≤◌, List, ◌++◌, length, take, drop, set, replicate, arith, length-append, length-drop}
use borrow.Rule.Slice.PartMut.{put_mid}
use Rattle.std.proofs.lemmas.Grind.{common_steps}
use Rattle.std.proofs.lemmas.List.{drop-append-le, take_all, drop_all, append_assoc, take-append-drop, take_rest, take-replicate, length-take-le}
use Rattle.std.proofs.lemmas.Slice.{take-put_mid}
use Rattle.sha.specs.Digest.{block_at, compressed, absorbed, gap, eight_bytes, padded}
use Rattle.sha.proofs.Chunks.{blocks_split}
use Rattle.std.specs.List.{flat_map}
use Rattle.std.specs.Simd.{first_chunks}
use Rattle.sha.proofs.Absorbed.{absorbed_left, absorbed_right}

-- a part that ends the block begun
pub absorbed_end : (h m p : List ℕ) → 0 < length m % 64 → length m % 64 + length p ≡ 64
    → absorbed h (m ++ p) (length (m ++ p) / 64) ≡ compressed (absorbed h m (length m / 64)) (drop (64 * (length m / 64)) m ++ p)
unfolding absorbed block_at
absorbed_end h m p some full =
    let q : length (m ++ p) / 64 ≡ suc (length m / 64) = omega (arith, length-append {A = ℕ}) in
    let w : length (drop (64 * (length m / 64)) m ++ p) ≤ 64 = simp (length-append, length-drop) (omega arith) in
    rw (q, absorbed_left h m p (length m / 64) (omega arith), drop-append-le (64 * (length m / 64)) m p (omega arith), take_all 64 (drop (64 * (length m / 64)) m ++ p) w)

-- whole blocks after whole blocks
pub absorbed_whole : (h m p : List ℕ) (k : ℕ) → length m % 64 ≡ 0 → length p ≡ k * 64
    → absorbed (absorbed h m (length m / 64)) p k ≡ absorbed h (m ++ p) (length (m ++ p) / 64)
absorbed_whole h m p k none full =
    let q : length (m ++ p) / 64 ≡ length m / 64 + k = omega (arith, length-append {A = ℕ}) in
    rw (q, absorbed_right h m p (length m / 64) k (omega arith))

-- a row filled to its end
pub filled : (t p : List ℕ) (b : ℕ) → length t ≡ 64 → length p ≡ 64 - b → b ≤ 64 → put_mid b (64 - b) t p ≡ take b t ++ p
filled t p b wide size fits = grind (arith, common_steps)

-- for a part that ends no block, one that ends the block begun, and one of whole blocks
pub ruleset keeping = (absorbed_left, drop-append-le, take-put_mid, length-append)

pub ruleset completing = (absorbed_end, filled, drop_all, length-append, length-take-le)

pub ruleset absorbing = (absorbed_whole, drop_all, length-append)

-- a part cut into three: the end of the block begun, whole blocks, and the rest
pub three_parts : (m p : List ℕ) (n : ℕ) (r : List ℕ) (bs : List (List ℕ)) (l : List ℕ) → r ≡ take (length p - n) (drop n p)
    → bs ≡ first_chunks 64 (length r / 64) r → l ≡ drop (length r / 64 * 64) r → ((m ++ take n p) ++ flat_map (λ x. x) bs) ++ l ≡ m ++ p
three_parts m p n r bs l e front back =
    rw (append_assoc (m ++ take n p) (flat_map (λ x. x) bs) l, front, back, blocks_split (length r / 64) r, e, take_rest p n, append_assoc, take-append-drop)

-- the padding, in the terms of the slices taken: t counts the bytes of m, and b those of the block begun
pub padding : (m : List ℕ) (t b : ℕ) (bits : List ℕ) → t ≡ length m % 2 ^ 64 → b ≡ length m % 64 → bits ≡ eight_bytes ((t * 8) % 2 ^ 64)
    → (m ++ take (((119 - b) % 64 + 1) - 0) (set (replicate 64 0) 0 128)) ++ bits ≡ padded m
unfolding padded gap
padding m t b bits e front is =
    let g : ((119 - b) % 64 + 1) - 0 ≡ suc ((119 - length m % 64) % 64) = omega arith in
    let all : (t * 8) % 2 ^ 64 ≡ 8 * length m % 2 ^ 64 = omega arith in
    rw (is, g, all, take-replicate {X = ℕ} ((119 - length m % 64) % 64) 63 0 (omega arith))
