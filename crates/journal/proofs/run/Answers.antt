use Rattle.std.proofs.lemmas.Result.{err_from_is_err_and}
use Rattle.std.proofs.Common.{arith}
use Rattle.journal.specs.Writes.{write_of}
use Rattle.journal.proofs.Runs.{ran_short}
use Rattle.journal.proofs.run.Goals as goal

pub returns-in_err-write : goal.returns-in_err-write
returns-in_err-write g c =
    let p = err_from_is_err_and c.from_residual.result c.from_residual.ensures.1 in
    rw (p.1, p.2) (ran_short (λ w. write_of w.0 w.1.now) _ c.args.writes.now _ _ (g.D.ReadSlots.state c.loop-slot.d) c.loop-slot.invariant.slots (omega arith) _ _ c.requires.within c.loop-slot.invariant.on c.in_err-write.ensures)
