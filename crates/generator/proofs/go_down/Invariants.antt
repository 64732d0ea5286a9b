use Rattle.std.proofs.Common.{◌≡◌, ◌+◌}
use Rattle.tree.specs.Values.{way, follow}
use Rattle.generator.proofs.go_down.Given as goal

-- a call for each turn made; what is left of the way leads from the value reached to its end
abbrev pub invariant-loop-h : goal.invariant-loop-h
invariant-loop-h g l =
    let x = (g.G.Generator.meaning l.generator).expansion in
    record {
      counted : l.calls + l.h ≡ l.levels;
      left : follow x l.values.value (way l.h 0 l.n) ≡ follow x l.fn.values.value (way l.levels 0 l.n);
    }
