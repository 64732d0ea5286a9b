-- What holds of every digest.
use Rattle.std.specs.Prelude.{◌≡◌, ℕ, ◌<◌, List, length}
use Rattle.std.specs.List.{AllByRecursion}
use Rattle.sha.specs.Digest.{sha256}

-- a digest has 32 numbers, and each is a byte
pub record DigestLaws : Type 0 where
  pub long : (m : List ℕ) → length (sha256 m) ≡ 32
  pub bytes : (m : List ℕ) → AllByRecursion (λ b. b < 256) (sha256 m)
