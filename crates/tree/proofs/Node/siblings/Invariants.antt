use Rattle.std.proofs.Common.{◌≡◌, ◌+◌, ◌^◌, ◌≤◌, ◌++◌, length, drop}
use Rattle.tree.specs.Gaps.{filled_in}
use Rattle.tree.specs.Nodes.{max_levels}
use Rattle.tree.specs.Puncture.{siblings_on}
use Rattle.tree.proofs.Node.siblings.Given as goal

-- the node reached lies within the tree; and the siblings on the rest of the way fill the gap in the row
abbrev pub invariant-loop-h : goal.invariant-loop-h
invariant-loop-h l =
    record {
      deep : l.left.depth + l.h ≤ max_levels;
      inside : l.left.first + 2 ^ l.h ≤ 2 ^ max_levels;
      long : length l.row ≡ max_levels;
      room : l.gap.start + l.h ≡ l.gap.end;
      within : l.gap.end ≤ max_levels;
      listed : filled_in l.row l.gap (siblings_on l.left.depth l.h l.left.first l.n) ≡ siblings_on l.self.depth l.count l.self.first l.n ++ drop l.count l.initial.row;
    }
