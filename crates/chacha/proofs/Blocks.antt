-- The laws of a block: its length, that its numbers are bytes, and its halves.
use Rattle.std.proofs.Common.{◌≡◌, ℕ, zero, suc, ◌+◌, ◌*◌, ◌/◌, ◌%◌, ◌^◌, ◌<◌, ◌≤◌, List, [], ◌∷◌, ◌++◌, length, get_or, map, take, drop, refl, sym, ap, ◌∙◌, arith, length-set, length-drop}
use Rattle.std.proofs.lemmas.Simd.{length-zip2, get_or-zip2}
use Rattle.std.proofs.lemmas.List.{take_more, take_all, flat_map_more, length-take-le, take-append-drop}
use Rattle.std.proofs.lemmas.Slice.{take-put_mid}
use native.Mathlib.Numerals.{unary_clauses}
use borrow.Rule.Slice.PartMut.{put_mid}
use Rattle.std.specs.List.{flat_map, range_with_len, AllByRecursion as All}
use Rattle.std.specs.Simd.{first_chunks}
use Rattle.octets.proofs.Chunks.{word_at}
use Rattle.chacha.specs.Cipher.{mixed, quarter_round, column_rounds, diagonal_rounds, double_rounds, word_of, words_of, start_of, added, serialized, block_of}
use Rattle.chacha.specs.Laws.{BlockLaws}

-- each step keeps the state's length
mixed_long : (a b d k : ℕ) (s : List ℕ) → length (mixed a b d k s) ≡ length s
unfolding mixed
mixed_long a b d k s = simp length-set

rounds_long : (n : ℕ) (s : List ℕ) → length (double_rounds n s) ≡ length s
unfolding double_rounds diagonal_rounds column_rounds quarter_round
rounds_long zero s = refl
rounds_long (suc n) s = simp mixed_long (rounds_long n s)

-- four bytes for each word
joined_long : (ws : List ℕ) → length (flat_map serialized ws) ≡ 4 * length ws
unfolding serialized
joined_long [] = refl
joined_long (w ∷ ws) = omega (arith, joined_long ws)

joined_bytes : (ws : List ℕ) → All (λ b. b < 256) (flat_map serialized ws)
unfolding serialized
joined_bytes [] = tt
joined_bytes (w ∷ ws) = (omega arith, (omega arith, (omega arith, (omega arith, joined_bytes ws))))

pub block_long : (key : List ℕ) (counter : ℕ) (nonce : List ℕ) → length (block_of key counter nonce) ≡ 64
unfolding block_of added start_of words_of
block_long key counter nonce =
    let s : List ℕ = start_of key counter nonce in
    let e : length s ≡ 16 = refl in
    omega (arith, joined_long (added (double_rounds 10 s) s), rounds_long 10 s, length-zip2 (λ x y. (x + y) % 2 ^ 32) (double_rounds 10 s) s (rounds_long 10 s))

pub block_laws : BlockLaws
unfolding block_of
block_laws = record { long = block_long; bytes = λ key counter nonce. joined_bytes _ }

-- the sums of the parts, where two lists are cut at one place
added_parts : (xs ys us vs : List ℕ) → length xs ≡ length ys → added (xs ++ us) (ys ++ vs) ≡ added xs ys ++ added us vs
unfolding added
added_parts [] [] us vs e = refl
added_parts [] (y ∷ ys) us vs e = absurd (omega arith)
added_parts (x ∷ xs) [] us vs e = absurd (omega arith)
added_parts (x ∷ xs) (y ∷ ys) us vs e = ap (λ (l : List ℕ). ((x + y) % 2 ^ 32) ∷ l) (added_parts xs ys us vs (omega arith))

pub added_cut : (n : ℕ) (xs ys : List ℕ) → length xs ≡ length ys → n ≤ length xs → added xs ys ≡ added (take n xs) (take n ys) ++ added (drop n xs) (drop n ys)
added_cut n xs ys e l =
    let same : length (take n xs) ≡ length (take n ys) = length-take-le n xs l ∙ sym (length-take-le n ys (omega arith)) in
    ap (λ (l : List ℕ). added l ys) (sym (take-append-drop n xs))
    ∙ ap (λ (l : List ℕ). added (take n xs ++ drop n xs) l) (sym (take-append-drop n ys))
    ∙ added_parts (take n xs) (take n ys) (drop n xs) (drop n ys) same

-- the sums of the first words are the first bytes, and those of the others the others
halved : (n : ℕ) (s f : List ℕ) → length s ≡ length f → (take (4 * n) (flat_map serialized (added s f)) ≡ flat_map serialized (added (take n s) (take n f))) × (drop (4 * n) (flat_map serialized (added s f)) ≡ flat_map serialized (added (drop n s) (drop n f)))
unfolding added serialized
halved zero s f e = (refl, refl)
halved (suc n) [] f e = (simp unary_clauses, simp unary_clauses)
halved (suc n) (x ∷ s) [] e = absurd (cc)
halved (suc n) (x ∷ s) (y ∷ f) e =
    let h = halved n s f (omega arith) in (simp (unary_clauses, h.0), simp unary_clauses h.1)

pub halves : (s f : List ℕ) → length s ≡ 16 → length f ≡ 16 → (take 32 (flat_map serialized (added s f)) ≡ flat_map serialized (added (take 8 s) (take 8 f))) × (drop 32 (flat_map serialized (added s f)) ≡ flat_map serialized (added (take 8 (drop 8 s)) (take 8 (drop 8 f))))
halves s f p q =
    let h = halved 8 s f (p ∙ sym q) in
    (h.0, rw (take_all 8 (drop 8 s) (simp length-drop (omega arith)), take_all 8 (drop 8 f) (simp length-drop (omega arith))) h.1)

-- one word's bytes more
pub sums_more : (xs ys out w : List ℕ) (i k : ℕ) → length xs ≡ length ys → length out ≡ 4 * length xs → i < length xs → take (4 * i) out ≡ flat_map serialized (take i (added xs ys)) → w ≡ serialized ((get_or xs i 0 + get_or ys i 0) % 2 ^ 32)
    → take (4 * (i + 1)) (put_mid (4 * i) k out w) ≡ flat_map serialized (take (i + 1) (added xs ys))
unfolding added serialized
sums_more xs ys out w i k e room h before is =
    let long = length-zip2 (λ x y. (x + y) % 2 ^ 32) xs ys e in
    let here = get_or-zip2 (λ x y. (x + y) % 2 ^ 32) xs ys i 0 0 0 h (omega arith) in
    take-put_mid (4 * i) k out w (4 * (i + 1)) (omega (arith, ap length is)) (omega arith)
    ∙ rw (is, before, take_more (added xs ys) i 0 (omega arith), here) (flat_map_more serialized [] (take i (added xs ys)) ((get_or xs i 0 + get_or ys i 0) % 2 ^ 32))

pub ruleset sums = (length-zip2, take_all, sums_more)

-- the words of a row that was read by chunks of four bytes
pub words_read : (b : List ℕ) (i n : ℕ) → 4 * (i + n) ≤ length b → words_of b i n
    ≡ map (λ j. get_or (get_or (first_chunks 4 (length b / 4) b) j []) 0 0 + get_or (get_or (first_chunks 4 (length b / 4) b) j []) 1 0 * 256 + get_or (get_or (first_chunks 4 (length b / 4) b) j []) 2 0 * 65536 + get_or (get_or (first_chunks 4 (length b / 4) b) j []) 3 0 * 16777216) (range_with_len i n)
unfolding word_of words_of
words_read b i zero h = refl
words_read b i (suc n) h = cc (word_at (λ p q r s. p + q * 256 + r * 65536 + s * 16777216) b _ refl i _ (omega arith) refl, words_read b (i + 1) n (omega arith))
