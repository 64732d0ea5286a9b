-- The laws of a digest: its length, and that its numbers are bytes.
use Rattle.std.proofs.Common.{◌≡◌, ℕ, zero, suc, ◌*◌, ◌/◌, ◌<◌, List, [], ◌∷◌, length, refl, ap, ◌∙◌, arith}
use Rattle.std.specs.List.{flat_map, AllByRecursion as All}
use Rattle.std.proofs.lemmas.Simd.{length-zip2}
use Rattle.sha.specs.Laws.{DigestLaws}
use Rattle.sha.specs.Digest.{plus, added, round_of, rounds_of, scheduled, compressed, absorbed, start_words, padded, four_bytes, last_value, sha256}

pub compressed_long : (h b : List ℕ) → length h ≡ 8 → length (compressed h b) ≡ 8
unfolding compressed added rounds_of round_of
compressed_long h b e = length-zip2 plus h (rounds_of (scheduled b 48) 64 h) e ∙ e

absorbed_long : (h m : List ℕ) (n : ℕ) → length h ≡ 8 → length (absorbed h m n) ≡ 8
unfolding absorbed
absorbed_long h m zero e = e
absorbed_long h m (suc n) e = compressed_long _ _ (absorbed_long h m n e)

joined_long : (ws : List ℕ) → length (flat_map four_bytes ws) ≡ 4 * length ws
unfolding four_bytes
joined_long [] = refl
joined_long (w ∷ ws) = omega (arith, joined_long ws)

joined_bytes : (ws : List ℕ) → All (λ b. b < 256) (flat_map four_bytes ws)
unfolding four_bytes
joined_bytes [] = tt
joined_bytes (w ∷ ws) = (omega arith, (omega arith, (omega arith, (omega arith, joined_bytes ws))))

pub digest_long : (m : List ℕ) → length (sha256 m) ≡ 32
unfolding sha256 last_value start_words
digest_long m = joined_long (last_value m) ∙ ap (λ n. 4 * n) (absorbed_long start_words (padded m) (length (padded m) / 64) refl)

pub digest_bytes : (m : List ℕ) → All (λ b. b < 256) (sha256 m)
unfolding sha256
digest_bytes m = joined_bytes (last_value m)

pub digest_laws : DigestLaws
digest_laws = record { long = digest_long; bytes = digest_bytes }
