-- What holds of every block, whatever stands for the key and the nonce.
use Rattle.std.specs.Prelude.{◌≡◌, ℕ, ◌<◌, List, length}
use Rattle.std.specs.List.{AllByRecursion}
use Rattle.chacha.specs.Cipher.{block_of}

-- a block has 64 numbers, and each is a byte
pub record BlockLaws : Type 0 where
  pub long : (key : List ℕ) (counter : ℕ) (nonce : List ℕ) → length (block_of key counter nonce) ≡ 64
  pub bytes : (key : List ℕ) (counter : ℕ) (nonce : List ℕ) → AllByRecursion (λ b. b < 256) (block_of key counter nonce)
