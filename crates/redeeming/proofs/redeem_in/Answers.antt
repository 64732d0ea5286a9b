use Rattle.std.proofs.Common.{◌≡◌, length}
use Rattle.std.proofs.lemmas.Result.{err_from_is_err_and}
use Rattle.tree.specs.Nodes.{tree_levels}
use Rattle.calls.proofs.Readings.{entered_by}
use Rattle.redeeming.proofs.Spends.{not_entered, not_surveyed}
use Rattle.redeeming.proofs.redeem_in.Goals as goal

pub returns-in_err-count : goal.returns-in_err-count
returns-in_err-count g c =
    let p = err_from_is_err_and c.from_residual.result c.from_residual.ensures.1 in
    rw (p.1, p.2) (not_entered _ tree_levels _ _ _ _ c.in_err-count.ensures)

pub returns-in_err-ticket : goal.returns-in_err-ticket
returns-in_err-ticket g c =
    let p = err_from_is_err_and c.from_residual-in_err-ticket.result c.from_residual-in_err-ticket.ensures.1 in
    let a = entered_by tree_levels c.in_ok-count.ensures.0 in
    rw (p.1, p.2) (not_surveyed _ tree_levels _ _ _ _ c.in_ok-count.ensures.0 (c.in_err-ticket.ensures a.some a.wide))

pub returns : goal.returns
returns g c =
    let a = entered_by tree_levels c.in_ok-count.ensures.0 in
    let v = c.in_ok-ticket.ensures a.some a.wide in
    let l : length c.read_for.new.marks ≡ length c.args.marks.now = c.read_for.auto.marks in
    let t = v.0 in
    rw (l, t) at (c.spend.ensures (rw l c.in_ok-count.ensures) v.1 (rw (l, t) v.2))
