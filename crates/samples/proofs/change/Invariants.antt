use Rattle.std.proofs.Common.{◌≡◌, take}
use Rattle.std.specs.List.{fold}
use Rattle.samples.specs.Rows.{changed}
use Rattle.samples.proofs.change.Given as goal

-- the changes so far are made
abbrev pub invariant-loop-change : goal.invariant-loop-change
invariant-loop-change l = l.file ≡ fold changed l.initial.file (take l.change-index l.changes)
