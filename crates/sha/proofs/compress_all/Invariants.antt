use Rattle.std.proofs.Common.{◌≡◌, length}
use Rattle.std.specs.List.{flat_map}
use Rattle.sha.specs.Digest.{absorbed}
use Rattle.sha.proofs.compress_all.Given as goal

abbrev pub invariant-loop-block : goal.invariant-loop-block
invariant-loop-block l = (l.state ≡ absorbed l.initial.state (flat_map (λ x. x) l.blocks) l.block-index) × (length l.state ≡ 8)
