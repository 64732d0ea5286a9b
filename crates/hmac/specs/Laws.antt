-- What holds of every MAC.
use Rattle.std.specs.Prelude.{◌≡◌, ℕ, ◌<◌, List, length}
use Rattle.std.specs.List.{AllByRecursion}
use Rattle.hmac.specs.Mac.{hmac}

-- a MAC has 32 numbers, and each is a byte
pub record MacLaws : Type 0 where
  pub long : (k m : List ℕ) → length (hmac k m) ≡ 32
  pub bytes : (k m : List ℕ) → AllByRecursion (λ b. b < 256) (hmac k m)
