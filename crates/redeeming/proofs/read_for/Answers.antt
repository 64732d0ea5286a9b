use Rattle.std.proofs.Common.{Some, ap, ◌∙◌}
use Rattle.std.proofs.lemmas.Result.{err_from_is_err_and}
use Rattle.tree.specs.Nodes.{tree_levels}
use Rattle.calls.specs.Kits.{kit_of}
use Rattle.redeeming.specs.Steps.{asked_by}
use Rattle.redeeming.proofs.Checks.{is_of, survey_err, check_err, check_ok}
use Rattle.redeeming.proofs.read_for.Goals as goal

pub returns-in_err-survey : goal.returns-in_err-survey
returns-in_err-survey g c = λ some wide.
    let p = err_from_is_err_and c.from_residual.result c.from_residual.ensures.1 in
    let n = c.numbers_of-numbers.ensures in
    rw (p.1, p.2) (survey_err (kit_of (g.G.Generator.meaning c.args.generator.now) (g.S.Sealer.meaning c.args.sealer.now)) tree_levels _ c.args.bytes.now wide some c.asked.result (rw n at c.in_err-survey.ensures.is))

pub returns-in_err-check : goal.returns-in_err-check
returns-in_err-check g c = λ some wide.
    let p = err_from_is_err_and c.from_residual-in_err-check.result c.from_residual-in_err-check.ensures.1 in
    let n = c.numbers_of-numbers.ensures in
    let o = c.overhead.ensures in
    let b = is_of _ _ c.args.bytes.now c.in-Some.ticket (rw o at c.of-ticket.ensures) c.in-Some.is in
    let t = b.1 in
    rw (p.1, p.2) (check_err (kit_of (g.G.Generator.meaning c.args.generator.now) (g.S.Sealer.meaning c.args.sealer.now)) tree_levels _ c.args.bytes.now wide some c.asked.result (rw n at c.in_ok-survey.ensures.is) (rw n at c.read_marking.ensures.marks) (λ xs. rw t at (c.in_err-check.ensures (kit_of (g.G.Generator.meaning c.args.generator.now) (g.S.Sealer.meaning c.args.sealer.now)) xs (rw t b.0))))

pub returns : goal.returns
returns g c = λ some wide.
    let n = c.numbers_of-numbers.ensures in
    let o = c.overhead.ensures in
    let b = is_of _ _ c.args.bytes.now c.in-Some.ticket (rw o at c.of-ticket.ensures) c.in-Some.is in
    let t = b.1 in
    let r = check_ok (kit_of (g.G.Generator.meaning c.args.generator.now) (g.S.Sealer.meaning c.args.sealer.now)) tree_levels _ c.args.bytes.now wide some c.asked.result (rw n at c.in_ok-survey.ensures.is) (rw n at c.in_ok-survey.ensures.marks) (λ xs. rw t at (c.in_ok-check.ensures (kit_of (g.G.Generator.meaning c.args.generator.now) (g.S.Sealer.meaning c.args.sealer.now)) xs (rw t b.0))) (c.asked.ensures ∙ ap asked_by (c.in-Some.is ∙ ap Some t)) in
    (t, r.0, r.1)
