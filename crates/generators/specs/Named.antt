-- What the two named generators mean.
use Rattle.std.specs.Prelude.{ℕ, List, [], ◌∷◌, ◌++◌, take, drop}
use Rattle.octets.specs.Buffers.{zeros}
use Rattle.chacha.specs.Cipher.{block_of}
use Rattle.sha.specs.Digest.{sha256}
use Rattle.tree.specs.Values.{Expansion}
use Rattle.generator.specs.Bytes.{value_length}
use Rattle.generator.specs.Meaning.{GeneratorMeaning}

-- one ChaCha20 block, keyed with the parent's value, where counter and nonce are zero
abbrev pub child_block : List ℕ → List ℕ
child_block v = block_of v 0 (zeros 12)

-- generator 1: the block's first half is the left child's value, its second half the right child's
abbrev pub chacha_expansion : Expansion
chacha_expansion = record { left = λ v. take value_length (child_block v); right = λ v. drop value_length (child_block v) }

-- generator 2: SHA-256 of the parent's value and one more byte, 0 for the left child and 1 for the right
abbrev pub sha_expansion : Expansion
sha_expansion = record { left = λ v. sha256 (v ++ 0 ∷ []); right = λ v. sha256 (v ++ 1 ∷ []) }

-- the numbers that a key file knows them by are 1 and 2
abbrev pub chacha_meaning : GeneratorMeaning
chacha_meaning = record { expansion = chacha_expansion; number = 1 }

abbrev pub sha_meaning : GeneratorMeaning
sha_meaning = record { expansion = sha_expansion; number = 2 }
