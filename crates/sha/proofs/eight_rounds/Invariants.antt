use Rattle.std.proofs.Common.{◌≡◌, ℕ, List, length}
use Rattle.sha.specs.Digest.{rounds_of}
use Rattle.sha.proofs.eight_rounds.Given as goal

abbrev pub invariant-loop-k : goal.invariant-loop-k
invariant-loop-k l = record { done : (v : List ℕ) → l.s ≡ rounds_of l.w l.t v → l.last ≡ rounds_of l.w l.k v; long : length l.last ≡ 8 }
