-- SHA-256, as FIPS 180-4 gives it. A word is a number below 2 ^ 32, a message a list of bytes.
use Rattle.std.specs.Prelude.{ℕ, zero, suc, ◌+◌, ◌-◌, ◌*◌, ◌/◌, ◌%◌, ◌^◌, List, [], ◌∷◌, ◌++◌, map, length, take, drop, replicate, bit_and, bit_or, bit_xor, slice_index, slice_index_or}
use Rattle.std.specs.List.{range_with_len, flat_map}
use Rattle.std.specs.Simd.Lanes.{zip2}
use Rattle.sha.specs.Roots.{prime_of, fraction}

-- addition of words
unfoldable pub plus : ℕ → ℕ → ℕ
plus a b = (a + b) % 2 ^ 32

-- ROTR^k(x)
unfoldable pub rotr : ℕ → ℕ → ℕ
rotr k x = bit_or (x / 2 ^ (k % 32)) ((x * 2 ^ ((32 - k % 32) % 32)) % 2 ^ 32)

-- Ch(x, y, z), where the complement of x is 2 ^ 32 - 1 - x
unfoldable pub choose : ℕ → ℕ → ℕ → ℕ
choose x y z = bit_xor (bit_and x y) (bit_and (2 ^ 32 - 1 - x) z)

-- Maj(x, y, z)
unfoldable pub majority : ℕ → ℕ → ℕ → ℕ
majority x y z = bit_xor (bit_xor (bit_and x y) (bit_and x z)) (bit_and y z)

-- the four functions that the standard writes with a sigma, large and small
unfoldable pub big_sigma0 : ℕ → ℕ
big_sigma0 x = bit_xor (bit_xor (rotr 2 x) (rotr 13 x)) (rotr 22 x)

unfoldable pub big_sigma1 : ℕ → ℕ
big_sigma1 x = bit_xor (bit_xor (rotr 6 x) (rotr 11 x)) (rotr 25 x)

unfoldable pub small_sigma0 : ℕ → ℕ
small_sigma0 x = bit_xor (bit_xor (rotr 7 x) (rotr 18 x)) (x / 2 ^ 3)

unfoldable pub small_sigma1 : ℕ → ℕ
small_sigma1 x = bit_xor (bit_xor (rotr 17 x) (rotr 19 x)) (x / 2 ^ 10)

-- K of round t: from the cube root of the t-th prime
unfoldable pub round_word : ℕ → ℕ
round_word t = fraction 3 (prime_of t)

-- word i of the initial hash value: from the square root of the i-th prime
unfoldable pub start_word : ℕ → ℕ
start_word i = fraction 2 (prime_of i)

-- H(0)
unfoldable pub start_words : List ℕ
start_words = map start_word (range_with_len 0 8)

-- word i of a block, big-endian
unfoldable pub word_of : List ℕ → ℕ → ℕ
word_of b i = slice_index b (4 * i) * 16777216 + slice_index b (4 * i + 1) * 65536 + slice_index b (4 * i + 2) * 256 + slice_index b (4 * i + 3)

-- W of round n + 16, from the words before it
unfoldable pub next_of : List ℕ → ℕ → ℕ
next_of w n = plus (plus (plus (small_sigma1 (slice_index w (n + 14))) (slice_index w (n + 9))) (small_sigma0 (slice_index w (n + 1)))) (slice_index w n)

-- the first 16 + n words of a block's message schedule
unfoldable pub scheduled : List ℕ → ℕ → List ℕ
scheduled b zero = map (word_of b) (range_with_len 0 16)
scheduled b (suc n) = let w : List ℕ = scheduled b n in w ++ next_of w n ∷ []

-- T1 and T2 of a round with K = k and W = w
unfoldable pub first_sum : ℕ → ℕ → ℕ → ℕ → ℕ → ℕ → ℕ
first_sum e f g h k w = plus (plus (plus (plus h (big_sigma1 e)) (choose e f g)) k) w

unfoldable pub second_sum : ℕ → ℕ → ℕ → ℕ
second_sum a b c = plus (big_sigma0 a) (majority a b c)

-- such a round, on the working variables a .. h in this order
unfoldable pub round_of : ℕ → ℕ → List ℕ → List ℕ
round_of k w s =
    let a : ℕ = slice_index_or s 0 0 in
    let b : ℕ = slice_index_or s 1 0 in
    let c : ℕ = slice_index_or s 2 0 in
    let d : ℕ = slice_index_or s 3 0 in
    let e : ℕ = slice_index_or s 4 0 in
    let f : ℕ = slice_index_or s 5 0 in
    let g : ℕ = slice_index_or s 6 0 in
    let h : ℕ = slice_index_or s 7 0 in
    let t1 : ℕ = first_sum e f g h k w in
    let t2 : ℕ = second_sum a b c in
    plus t1 t2 ∷ a ∷ b ∷ c ∷ plus d t1 ∷ e ∷ f ∷ g ∷ []

-- the first n rounds, over the schedule w
unfoldable pub rounds_of : List ℕ → ℕ → List ℕ → List ℕ
rounds_of w zero s = s
rounds_of w (suc n) s = round_of (round_word n) (slice_index w n) (rounds_of w n s)

-- two hash values added, word by word
unfoldable pub added : List ℕ → List ℕ → List ℕ
added = zip2 plus

-- H(i) from H(i - 1) and block i
unfoldable pub compressed : List ℕ → List ℕ → List ℕ
compressed h b = added h (rounds_of (scheduled b 48) 64 h)

-- block i of a message, counted from 0
unfoldable pub block_at : List ℕ → ℕ → List ℕ
block_at m i = take 64 (drop (64 * i) m)

-- the hash value after the first n blocks of m, from h on
unfoldable pub absorbed : List ℕ → List ℕ → ℕ → List ℕ
absorbed h m zero = h
absorbed h m (suc n) = compressed (absorbed h m n) (block_at m n)

-- how many zero bytes the padding of n bytes has: with the byte before them and the eight after them it ends a block
unfoldable pub gap : ℕ → ℕ
gap n = (119 - n % 64) % 64

-- the eight bytes of a 64-bit number, big-endian
unfoldable pub eight_bytes : ℕ → List ℕ
eight_bytes v =
    (v / 2 ^ 56 % 256) ∷ (v / 2 ^ 48 % 256) ∷ (v / 2 ^ 40 % 256) ∷ (v / 2 ^ 32 % 256)
    ∷ (v / 2 ^ 24 % 256) ∷ (v / 2 ^ 16 % 256) ∷ (v / 2 ^ 8 % 256) ∷ (v % 256) ∷ []

-- the padded message: m, the bit 1, zeros, and the length of m in bits. The standard takes messages below 2 ^ 64 bits;
-- of a longer one the length is taken modulo 2 ^ 64.
unfoldable pub padded : List ℕ → List ℕ
padded m = m ++ (0x80 ∷ replicate (gap (length m)) 0) ++ eight_bytes (8 * length m % 2 ^ 64)

-- the hash value after all blocks of the padded message
unfoldable pub last_value : List ℕ → List ℕ
last_value m = let p : List ℕ = padded m in absorbed start_words p (length p / 64)

-- a word's four bytes, big-endian
unfoldable pub four_bytes : ℕ → List ℕ
four_bytes w = (w / 2 ^ 24 % 256) ∷ (w / 2 ^ 16 % 256) ∷ (w / 2 ^ 8 % 256) ∷ (w % 256) ∷ []

-- the digest of a message: its last hash value as bytes
unfoldable pub sha256 : List ℕ → List ℕ
sha256 m = flat_map four_bytes (last_value m)
