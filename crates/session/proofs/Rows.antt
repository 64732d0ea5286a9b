-- Rows of bytes: the parts of a list one after another, and a buffer that is filled part by part.
use Rattle.std.proofs.Common.{◌≡◌, ℕ, ◌+◌, ◌-◌, ◌^◌, ◌<◌, ◌≤◌, List, [], ◌∷◌, ◌++◌, length, take, drop, set, refl, ◌∙◌, subst, add-one, arith}
use lib.Seq.{paste}
use Rattle.std.proofs.lemmas.Int.Digits.{number_lt}
use Rattle.std.proofs.ByRecursion.{All-from_get_or}
use Rattle.std.proofs.lemmas.List.{append_assoc, length-append, set_split, take_at, take_all, drop_at, drop-drop, drop-replicate}
use Rattle.std.proofs.lemmas.Grind.{common_steps}
use Rattle.octets.specs.Buffers.{zeros, filled}
use Rattle.octets.specs.Fields.{number_of}
use Rattle.session.specs.Records.{Bytes}

-- what follows the part that stands at a place
pub past : (k m : ℕ) (b x r : List ℕ) → drop k b ≡ x ++ r → length x ≡ m → drop (k + m) b ≡ r
past k m b x r e l = rw (← drop-drop m k b, e) (drop_at x r m l)

-- the part that stands at a place
pub field : (k m : ℕ) (b x r : List ℕ) → drop k b ≡ x ++ r → length x ≡ m → take m (drop k b) ≡ x
field k m b x r e l = rw e (take_at x r m l)

-- a number of n bytes is below 256 ^ n
pub number_below : (n : ℕ) (b : List ℕ) → length b ≡ n → Bytes b → number_of b < 256 ^ n
unfolding number_of
number_below n b e small =
    subst (λ (m : ℕ). number_of b < 256 ^ m) e (number_lt 256 b (All-from_get_or (λ d. d < 256) b 0 (λ i h. small i)))

pub length_filled : (p : List ℕ) (n : ℕ) → length p ≤ n → length (filled p n) ≡ n
length_filled p n h = grind (arith, common_steps)

pub filled_none : (n : ℕ) → zeros n ≡ filled [] n
filled_none n = grind arith

-- a buffer that is filled to its end
pub filled_whole : (xs : List ℕ) (n : ℕ) → length xs ≡ n → filled xs n ≡ xs
filled_whole xs n e = grind (arith, common_steps)

-- one more part after those that fill a buffer so far
pub filled_next : (p s : List ℕ) (n at m : ℕ) → length p ≡ at → length s ≡ m → at + m ≤ n → paste (filled p n) at s m ≡ filled (p ++ s) n
filled_next p s n at m e f h =
    let z : List ℕ = zeros (n - length p) in
    let k : n - length p - m ≡ n - length (p ++ s) = omega (arith, length-append p s) in
    rw (take_at p z at e, take_all m s (omega arith), ← drop-drop m at (p ++ z), drop_at p z at e, drop-replicate {X = ℕ} m (n - length p) 0, k)

-- one more byte
pub filled_byte : (p : List ℕ) (n at x : ℕ) → length p ≡ at → at + 1 ≤ n → set (filled p n) at x ≡ filled (p ++ x ∷ []) n
filled_byte p n at x e h =
    let z : List ℕ = filled p n in
    let l : at < length z = omega (arith, length_filled p n (omega arith)) in
    set_split z at x l ∙ rw (← add-one at, ← append_assoc (take at z) (x ∷ []) (drop (at + 1) z)) (filled_next p (x ∷ []) n at 1 e refl h)
