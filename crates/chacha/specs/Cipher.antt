-- The block function of ChaCha20, as RFC 8439 gives it in sections 2.1 to 2.3. A state is a list of sixteen words.
use Rattle.std.specs.Prelude.{ℕ, zero, suc, ◌+◌, ◌-◌, ◌*◌, ◌/◌, ◌%◌, ◌^◌, List, [], ◌∷◌, ◌++◌, set, codes, bit_or, bit_xor, slice_index, slice_set}
use Rattle.std.specs.List.{flat_map}
use Rattle.std.specs.Simd.Lanes.{zip2}

-- x <<< k, on words of 32 bits
unfoldable pub rotl : ℕ → ℕ → ℕ
rotl k x = bit_or ((x * 2 ^ (k % 32)) % 2 ^ 32) (x / 2 ^ ((32 - k % 32) % 32))

-- a line of the quarter round: a += b; d ^= a; d <<<= k, where a, b and d are places of the state
unfoldable pub mixed : ℕ → ℕ → ℕ → ℕ → List ℕ → List ℕ
mixed a b d k s =
    let t : List ℕ = set s a ((slice_index s a + slice_index s b) % 2 ^ 32) in
    slice_set t d (rotl k (bit_xor (slice_index t d) (slice_index t a)))

-- QUARTERROUND(a, b, c, d): its four lines, the first innermost
unfoldable pub quarter_round : ℕ → ℕ → ℕ → ℕ → List ℕ → List ℕ
quarter_round a b c d s = mixed c d b 7 (mixed a b d 8 (mixed c d b 12 (mixed a b d 16 s)))

-- the four quarter rounds on the columns of the state
unfoldable pub column_rounds : List ℕ → List ℕ
column_rounds s = quarter_round 3 7 11 15 (quarter_round 2 6 10 14 (quarter_round 1 5 9 13 (quarter_round 0 4 8 12 s)))

-- the four quarter rounds on its diagonals
unfoldable pub diagonal_rounds : List ℕ → List ℕ
diagonal_rounds s = quarter_round 3 4 9 14 (quarter_round 2 7 8 13 (quarter_round 1 6 11 12 (quarter_round 0 5 10 15 s)))

-- n column rounds and n diagonal rounds, in turn
unfoldable pub double_rounds : ℕ → List ℕ → List ℕ
double_rounds zero s = s
double_rounds (suc n) s = diagonal_rounds (column_rounds (double_rounds n s))

-- word i of a row of bytes, read little-endian
unfoldable pub word_of : List ℕ → ℕ → ℕ
word_of b i = slice_index b (4 * i) + slice_index b (4 * i + 1) * 256 + slice_index b (4 * i + 2) * 65536 + slice_index b (4 * i + 3) * 16777216

-- n words from word i on
unfoldable pub words_of : List ℕ → ℕ → ℕ → List ℕ
words_of b i zero = []
words_of b i (suc n) = word_of b i ∷ words_of b (i + 1) n

-- the start state: four words of text, eight of key, the counter, three of nonce
unfoldable pub start_of : List ℕ → ℕ → List ℕ → List ℕ
start_of key counter nonce = words_of (codes "expand 32-byte k") 0 4 ++ words_of key 0 8 ++ counter ∷ words_of nonce 0 3

-- two states added, word by word
unfoldable pub added : List ℕ → List ℕ → List ℕ
added = zip2 (λ x y. (x + y) % 2 ^ 32)

-- a word's four bytes, little-endian
unfoldable pub serialized : ℕ → List ℕ
serialized w = (w % 256) ∷ (w / 256 % 256) ∷ (w / 65536 % 256) ∷ (w / 16777216 % 256) ∷ []

-- the block of a key, a counter and a nonce: twenty rounds of the start state, the start state added, as bytes
unfoldable pub block_of : List ℕ → ℕ → List ℕ → List ℕ
block_of key counter nonce =
    let s : List ℕ = start_of key counter nonce in
    flat_map serialized (added (double_rounds 10 s) s)
