use Rattle.std.proofs.Common.{◌≡◌, ◌+◌, length, take}
use Rattle.sha.specs.Digest.{scheduled}
use Rattle.sha.proofs.schedule.Given as goal

abbrev pub invariant-loop-t : goal.invariant-loop-t
invariant-loop-t l = record { front : take (l.t + 16) l.w ≡ scheduled l.block l.t; long : length l.w ≡ 64 }
