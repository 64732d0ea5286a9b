-- HMAC as RFC 2104 gives it, over SHA-256, whose blocks have 64 bytes.
use Rattle.std.specs.Prelude.{ℕ, ◌-◌, cond, List, ◌++◌, map, length, replicate, bit_xor, nat_le}
use Rattle.sha.specs.Digest.{sha256}

-- the key as it is used: one longer than a block is hashed first
unfoldable pub short_key : List ℕ → List ℕ
short_key k = cond (nat_le (length k) 64) k (sha256 k)

-- the key with zeros up to the length of a block
unfoldable pub key_block : List ℕ → List ℕ
key_block k = short_key k ++ replicate (64 - length (short_key k)) 0

-- each byte XOR b
unfoldable pub masked : ℕ → List ℕ → List ℕ
masked b bs = map (λ x. bit_xor x b) bs

-- the key block XOR ipad, and the key block XOR opad
unfoldable pub inner_block : List ℕ → List ℕ
inner_block k = masked 0x36 (key_block k)

unfoldable pub outer_block : List ℕ → List ℕ
outer_block k = masked 0x5c (key_block k)

-- H(K XOR opad, H(K XOR ipad, m))
unfoldable pub hmac : List ℕ → List ℕ → List ℕ
hmac k m = sha256 (outer_block k ++ sha256 (inner_block k ++ m))
