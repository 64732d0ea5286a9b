-- What sealer 1 means.
use Rattle.std.specs.Prelude.{ℕ, ◌+◌, ◌%◌, ◌^◌, List, ◌++◌, take}
use Rattle.octets.specs.Buffers.{zeros}
use Rattle.chacha.specs.Cipher.{block_of}
use Rattle.hmac.specs.Mac.{hmac}
use Rattle.sealer.specs.Meaning.{SealerMeaning}
use Rattle.scheme.specs.Schemes.{SchemeMeaning}
use Rattle.scheme.specs.Covering.{sealing_of, sealer_by}

-- the number by which trees name this sealer
abbrev pub sealer_number : ℕ
sealer_number = 1

-- the bytes of a keystream block
abbrev pub block_size : ℕ
block_size = 64

-- the bytes of a tag
abbrev pub tag_size : ℕ
tag_size = 16

-- the keystream: its block i is the ChaCha20 block at the counter i + 1, a word of 32 bits, where the nonce is zero
unfoldable pub stream_block : List ℕ → ℕ → List ℕ
stream_block key i = block_of key ((i + 1) % 2 ^ 32) (zeros 12)

-- the tag: the first sixteen bytes of the HMAC of the heading and the covered plain
unfoldable pub tag_of : List ℕ → List ℕ → List ℕ → List ℕ
tag_of key heading bytes = take tag_size (hmac key (heading ++ bytes))

-- its keystream and its tag
abbrev pub scheme : SchemeMeaning
scheme = record { block = stream_block; size = block_size; tag = tag_of; extra = tag_size }

-- the sealing of a plain: the plain under the keystream, then the tag
abbrev pub sealed_bytes : List ℕ → List ℕ → List ℕ → List ℕ
sealed_bytes = sealing_of scheme

-- what the sealer means
abbrev pub sealer : SealerMeaning
sealer = sealer_by scheme sealer_number
