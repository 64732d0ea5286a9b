-- Bytes by places, from bytes one by one.
use Rattle.std.specs.Prelude.{ℕ, ◌<◌, List, length, slice_index_or}
use Rattle.std.proofs.Common.{arith}
use Rattle.std.specs.List.{AllByRecursion as All}
use Rattle.std.proofs.lemmas.List.{get_or_past}
use Rattle.std.proofs.ByRecursion.{All-get_or}

pub each_small : (v : List ℕ) → All (λ b. b < 256) v → (k : ℕ) → slice_index_or v k 0 < 256
each_small v a k = grind (arith, get_or_past v k 0, λ (l : k < length v). All-get_or (λ b. b < 256) v k 0 l a)
