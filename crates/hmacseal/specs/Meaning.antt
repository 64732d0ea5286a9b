-- What sealer 2 means.
use Rattle.std.specs.Prelude.{ℕ, List, ◌∷◌, ◌++◌}
use Rattle.octets.specs.Fields.{bytes_of}
use Rattle.hmac.specs.Mac.{hmac}
use Rattle.sealer.specs.Meaning.{SealerMeaning}
use Rattle.scheme.specs.Schemes.{SchemeMeaning}
use Rattle.scheme.specs.Covering.{sealing_of, sealer_by}

-- the number by which trees name this sealer
abbrev pub sealer_number : ℕ
sealer_number = 2

-- the bytes of a keystream block, which is a whole MAC
abbrev pub block_size : ℕ
block_size = 32

-- the bytes of a tag, which is a whole MAC
abbrev pub tag_size : ℕ
tag_size = 32

-- the keystream: the HMACs of the byte 1 and the block's place in four bytes
unfoldable pub stream_block : List ℕ → ℕ → List ℕ
stream_block key i = hmac key (0x01 ∷ bytes_of 4 i)

-- the tag: the HMAC of the byte 2, the heading and the covered plain
unfoldable pub tag_of : List ℕ → List ℕ → List ℕ → List ℕ
tag_of key heading bytes = hmac key (0x02 ∷ (heading ++ bytes))

-- its keystream and its tag
abbrev pub scheme : SchemeMeaning
scheme = record { block = stream_block; size = block_size; tag = tag_of; extra = tag_size }

-- the sealing of a plain: the plain under the keystream, then the tag
abbrev pub sealed_bytes : List ℕ → List ℕ → List ℕ → List ℕ
sealed_bytes = sealing_of scheme

-- what the sealer means
abbrev pub sealer : SealerMeaning
sealer = sealer_by scheme sealer_number
