use Rattle.std.proofs.Common.{◌≡◌, ℕ, ◌<◌, slice_index, bit_xor}
use Rattle.scheme.proofs.lay.Given as goal

abbrev pub invariant-loop-k : goal.invariant-loop-k
invariant-loop-k l = (k : ℕ) → k < l.k → slice_index l.out k ≡ bit_xor (slice_index l.part k) (slice_index l.block k)
