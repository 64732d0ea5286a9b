use Rattle.std.proofs.Common.{◌≡◌, ◌*◌, length}
use Rattle.sha.specs.Digest.{rounds_of}
use Rattle.sha.proofs.compress.Given as goal

abbrev pub invariant-loop-n : goal.invariant-loop-n
invariant-loop-n l = record { done : l.last ≡ rounds_of l.w (8 * l.n) l.first; long : length l.last ≡ 8 }
