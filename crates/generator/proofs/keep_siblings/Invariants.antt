use Rattle.std.proofs.Common.{◌≡◌, ◌+◌, ◌≤◌, ◌++◌, length, drop}
use Rattle.tree.specs.Gaps.{filled_in}
use Rattle.tree.specs.Nodes.{max_levels}
use Rattle.tree.specs.Values.{way, follow, besides}
use Rattle.generator.proofs.keep_siblings.Given as goal

-- a call for each turn made; what is left of the way leads from the value reached to its end; and the values still to come
-- fill the gap in the row
abbrev pub invariant-loop-h : goal.invariant-loop-h
invariant-loop-h g l =
    let x = (g.G.Generator.meaning l.generator).expansion in
    record {
      counted : l.calls + l.h ≡ l.levels;
      left : follow x l.values.value (way l.h 0 l.n) ≡ follow x l.fn.values.value (way l.levels 0 l.n);
      long : length l.row ≡ max_levels;
      room : l.gap.start + l.h ≡ l.gap.end;
      within : l.gap.end ≤ l.levels;
      laid : filled_in l.row l.gap (besides x l.h l.n l.values.value) ≡ besides x l.levels l.n l.fn.values.value ++ drop l.levels l.fn.row;
    }
