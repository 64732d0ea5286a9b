-- What the scheme and the sealer promise.
use Rattle.std.specs.Prelude.{◌≡◌, ℕ, List, ◌∷◌, ◌++◌, length}
use Rattle.std.proofs.Common.{arith}
use Rattle.octets.specs.Fields.{bytes_of}
use Rattle.hmac.proofs.Macs.{mac_long}
use Rattle.sealer.specs.Meaning.{LawfulSealer}
use Rattle.scheme.specs.Schemes.{LawfulScheme}
use Rattle.scheme.proofs.Covers.{sealer_lawful}
use Rattle.hmacseal.specs.Meaning.{block_size, tag_size, stream_block, tag_of, sealer_number, scheme, sealer}

stream_long : (key : List ℕ) (index : ℕ) → length (stream_block key index) ≡ block_size
unfolding stream_block
stream_long key index = mac_long key (0x01 ∷ bytes_of 4 index)

tag_long : (key heading bytes : List ℕ) → length (tag_of key heading bytes) ≡ tag_size
unfolding tag_of
tag_long key heading bytes = mac_long key (0x02 ∷ (heading ++ bytes))

pub lawful_scheme : LawfulScheme scheme
lawful_scheme = record { some = omega arith; held = omega arith; limited = omega arith; whole = stream_long; tagged = tag_long }

pub lawful_sealer : LawfulSealer sealer
lawful_sealer = sealer_lawful scheme sealer_number lawful_scheme (omega arith)
