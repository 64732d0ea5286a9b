-- What the scheme and the sealer promise.
use Rattle.std.specs.Prelude.{◌≡◌, ℕ, ◌+◌, ◌%◌, ◌^◌, List, ◌++◌, length}
use Rattle.std.proofs.Common.{arith}
use Rattle.std.proofs.lemmas.List.{length-take-le}
use Rattle.octets.specs.Buffers.{zeros}
use Rattle.chacha.proofs.Blocks.{block_long}
use Rattle.hmac.specs.Mac.{hmac}
use Rattle.hmac.proofs.Macs.{mac_long}
use Rattle.sealer.specs.Meaning.{LawfulSealer}
use Rattle.scheme.specs.Schemes.{LawfulScheme}
use Rattle.scheme.proofs.Covers.{sealer_lawful}
use Rattle.chachaseal.specs.Meaning.{block_size, tag_size, stream_block, tag_of, sealer_number, scheme, sealer}

stream_long : (key : List ℕ) (index : ℕ) → length (stream_block key index) ≡ block_size
unfolding stream_block
stream_long key index = block_long key ((index + 1) % 2 ^ 32) (zeros 12)

tag_long : (key heading bytes : List ℕ) → length (tag_of key heading bytes) ≡ tag_size
unfolding tag_of
tag_long key heading bytes = length-take-le tag_size (hmac key (heading ++ bytes)) (omega (arith, mac_long key (heading ++ bytes)))

pub lawful_scheme : LawfulScheme scheme
lawful_scheme = record { some = omega arith; held = omega arith; limited = omega arith; whole = stream_long; tagged = tag_long }

pub lawful_sealer : LawfulSealer sealer
lawful_sealer = sealer_lawful scheme sealer_number lawful_scheme (omega arith)
