use Rattle.std.proofs.Common.{sym, ◌∙◌}
use Rattle.std.proofs.lemmas.Result.{err_from_is_err_and}
use Rattle.calls.specs.Kits.{kit_of}
use Rattle.issuing.proofs.Issued.{stopped, not_a_record, read_stops, exhausted, covered, may, ends}
use Rattle.issuing.proofs.issue_into.Goals as goal

pub returns-in_err-admit : goal.returns-in_err-admit
returns-in_err-admit g c =
    let p = err_from_is_err_and c.from_residual.result c.from_residual.ensures.1 in
    let e = c.in_err-admit.ensures in
    rw (p.1, p.2) (stopped _ _ _ _ _ (rw e))

pub returns-then-not-is_record : goal.returns-then-not-is_record
returns-then-not-is_record g c = rw c.plain.ensures (not_a_record _ _ _ _ _ c.in_ok-admit.ensures.0 (sym c.is_record.ensures.value ∙ c.if-not-is_record.true))

pub returns-in_err-survey : goal.returns-in_err-survey
returns-in_err-survey g c =
    let p = err_from_is_err_and c.from_residual-in_err-survey.result c.from_residual-in_err-survey.ensures.1 in
    let n = c.numbers_of-numbers.ensures in
    rw (p.1, p.2) (read_stops _ _ _ _ _ c.in_ok-admit.ensures.0 (sym c.is_record.ensures.value ∙ c.if-not-is_record.false) (rw n at c.in_err-survey.ensures.is))

pub returns-then-survey-ge-LEAVES : goal.returns-then-survey-ge-LEAVES
returns-then-survey-ge-LEAVES g c =
    let n = c.numbers_of-numbers.ensures in
    rw c.plain-then-survey-ge-LEAVES.ensures (exhausted _ _ _ _ _ c.in_ok-admit.ensures.0 (sym c.is_record.ensures.value ∙ c.if-not-is_record.false) (rw n at c.in_ok-survey.ensures.is) c.if-survey-ge-LEAVES.true)

pub unwrap-found-requires : goal.unwrap-found-requires
unwrap-found-requires g c =
    let n = c.numbers_of-numbers.ensures in
    covered (kit_of (g.G.Generator.meaning c.args.generator.now) (g.S.Sealer.meaning c.args.sealer.now)) _ _ _ _ c.in_ok-admit.ensures.0 (sym c.is_record.ensures.value ∙ c.if-not-is_record.false) (rw n at c.in_ok-survey.ensures.is) c.if-survey-ge-LEAVES.false

pub issue_found-requires : goal.issue_found-requires
issue_found-requires g c =
    let n = c.numbers_of-numbers.ensures in
    may (kit_of (g.G.Generator.meaning c.args.generator.now) (g.S.Sealer.meaning c.args.sealer.now)) _ _ _ _ c.in_ok-admit.ensures.0 (sym c.is_record.ensures.value ∙ c.if-not-is_record.false) (rw n at c.in_ok-survey.ensures.is) c.if-survey-ge-LEAVES.false c.unwrap-found.ensures

pub returns : goal.returns
returns g c =
    let n = c.numbers_of-numbers.ensures in
    ends _ _ _ _ _ c.in_ok-admit.ensures.0 (sym c.is_record.ensures.value ∙ c.if-not-is_record.false) (rw n at c.in_ok-survey.ensures.is) c.if-survey-ge-LEAVES.false c.unwrap-found.ensures c.issue_found.ensures
