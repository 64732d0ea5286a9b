use Rattle.std.specs.Iterator.Adapters.{rev_source, zip_first, zip_second}
use Rattle.std.specs.Slice.Iter.{iter_rest}
use Rattle.puncture.proofs.Laid.{Underway}
use Rattle.puncture.proofs.write_records.Given as goal

abbrev pub invariant-loop-node : goal.invariant-loop-node
invariant-loop-node g l =
    let nodes = iter_rest (zip_first (rev_source l.node-iterator)) in
    let values = iter_rest (zip_second (rev_source l.node-iterator)) in
    (goal.iterator-loop-node g).can_next l.node-iterator ×
    (goal.iterator-loop-node g).is_finite l.node-iterator ×
    Underway (g.D.ReadSlots.state l.initial.device) l.count l.nodes l.row l.marks l.last nodes values l.from l.next (g.D.ReadSlots.state l.device)
