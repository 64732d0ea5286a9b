use Rattle.std.proofs.Common.{Ok}
use Rattle.steps.specs.Writes.{Wrote}
use Rattle.calls.specs.Files.{blank_writes}
use Rattle.making.proofs.blank_all.Given as goal

-- the first i slots are zero
abbrev pub invariant-loop-i : goal.invariant-loop-i
invariant-loop-i g l = Wrote (g.D.ReadSlots.state l.initial.device).slots (blank_writes 0 l.i) (Ok tt) (g.D.ReadSlots.state l.device)
