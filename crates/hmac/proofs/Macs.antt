-- The laws of a MAC, and of the masked key block.
use Rattle.std.proofs.Common.{◌≡◌, ℕ, ◌+◌, set, get_or, sym, ◌-◌, ◌<◌, ◌≤◌, List, [], ◌∷◌, ◌++◌, length, take, drop, replicate, refl, arith}
use lib.Bits.{bit_xor, xor_assoc}
use Rattle.std.proofs.lemmas.List.{append-nil, drop-replicate}
use Rattle.std.proofs.lemmas.List.Edits.{map_over_more}
use Rattle.std.proofs.lemmas.Grind.{get_or_default_zero}
use Rattle.std.proofs.lemmas.Bool.{le-leb}
use Rattle.sha.proofs.Digests.{digest_long, digest_bytes}
use Rattle.hmac.specs.Laws.{MacLaws}
use Rattle.hmac.specs.Mac.{short_key, key_block, masked, hmac}

pub mac_long : (k m : List ℕ) → length (hmac k m) ≡ 32
unfolding hmac
mac_long k m = digest_long _

pub mac_laws : MacLaws
unfolding hmac
mac_laws = record { long = mac_long; bytes = λ k m. digest_bytes _ }

-- masking twice is masking by both
pub masked_twice : (a b : ℕ) (bs : List ℕ) → masked b (masked a bs) ≡ masked (bit_xor a b) bs
unfolding masked
masked_twice a b [] = refl
masked_twice a b (x ∷ bs) = rw (xor_assoc x a b, masked_twice a b bs)

-- masking for the inner hash and then by both masks is masking for the outer one
pub masked_again : (bs : List ℕ) → masked 0x6a (masked 0x36 bs) ≡ masked 0x5c bs
masked_again bs = masked_twice 0x36 0x6a bs

pub ruleset masks = (append-nil, masked_again)

-- the key block of a key that fits a block, in the terms of the slice written
pub short_block : (k w : List ℕ) → length k ≤ 64 → w ≡ k → w ++ drop (length k - 0) (replicate 64 0) ≡ key_block k
unfolding key_block short_key
short_block k w fits e =
    let z : length k - 0 ≡ length k = omega arith in
    rw (le-leb (length k) 64 fits, e, z, drop-replicate {X = ℕ} (length k) 64 0)

-- one byte more of a pad
pub masked_more : (b : ℕ) (old pad : List ℕ) (i : ℕ) → i < length old → i < length pad → pad ≡ masked b (take i old) ++ drop i old →
    set pad i (bit_xor (get_or pad i 0) b) ≡ masked b (take (i + 1) old) ++ drop (i + 1) old
unfolding masked
masked_more b old pad i l m e = map_over_more (λ x. bit_xor x b) old pad i (get_or pad i 0) l e (sym (get_or_default_zero pad i (get_or pad i 0) m))
