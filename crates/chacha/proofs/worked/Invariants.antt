use Rattle.std.proofs.Common.{◌≡◌}
use Rattle.chacha.specs.Cipher.{double_rounds}
use Rattle.chacha.proofs.worked.Given as goal

abbrev pub invariant-loop-turn : goal.invariant-loop-turn
invariant-loop-turn l = l.s ≡ double_rounds l._turn l.first
