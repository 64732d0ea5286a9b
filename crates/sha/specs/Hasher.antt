-- What a hash in progress holds.
use Rattle.std.specs.Prelude.{◌≡◌, ℕ, ◌*◌, ◌/◌, ◌%◌, ◌^◌, List, length, take, drop}
use Rattle.sha.specs.Digest.{start_words, absorbed}

-- it has been fed the bytes m: its state is the hash value after the whole blocks of m, its tail begins with what is left
-- of m, and its count is the length of m
pub record Fed (m state tail : List ℕ) (total : ℕ) : Type 0 where
  pub hashed : state ≡ absorbed start_words m (length m / 64)
  pub rest : take (length m % 64) tail ≡ drop (64 * (length m / 64)) m
  pub count : total ≡ length m % 2 ^ 64
