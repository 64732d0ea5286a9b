-- What a MAC in progress means, and what it holds.
use Rattle.std.specs.Prelude.{◌≡◌, ℕ, List, ◌++◌}
use Rattle.hmac.specs.Mac.{inner_block, outer_block}

-- a key, and the bytes that were fed under it
pub record Keyed : Type 0 where
  pub key : List ℕ
  pub message : List ℕ

-- the bytes that the two hashes were fed: the masked key block, and in the inner one the message after it
pub record Hashing (k m inner outer : List ℕ) : Type 0 where
  pub inside : inner ≡ inner_block k ++ m
  pub outside : outer ≡ outer_block k
