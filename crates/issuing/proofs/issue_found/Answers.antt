use Rattle.std.proofs.Common.{◌<◌, length, arith}
use Rattle.std.proofs.lemmas.Result.{err_from_is_err_and}
use Rattle.issuing.proofs.Ended.{head_cut}
use Rattle.issuing.proofs.issue_found.Goals as goal

pub returns-in_err-write_at : goal.returns-in_err-write_at
returns-in_err-write_at g c =
    let p = err_from_is_err_and c.from_residual.result c.from_residual.ensures.1 in
    let some : 0 < length (g.D.ReadSlots.state c.args.device.now).slots = omega (arith, c.requires.within) in
    rw (p.1, p.2) (head_cut some c.next_head.ensures c.in_err-write_at.ensures)
