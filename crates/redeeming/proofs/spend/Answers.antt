use Rattle.std.proofs.Common.{[], ◌-◌, ◌<◌, ◌≤◌, arith}
use Rattle.std.proofs.lemmas.Result.{err_from_is_err_and}
use Rattle.calls.specs.Kits.{kit_of}
use Rattle.redeeming.proofs.Spends.{is_spent, spots, met, stopped, no_slot, gives, failed_at, done}
use Rattle.redeeming.proofs.spend.Goals as goal

pub returns-in_default : goal.returns-in_default
returns-in_default g c = λ a f v.
    let e = c.number-number.ensures in
    let h = c.at.ensures in
    rw (h, e) (is_spent _ a.0 v c.in_default.is)

pub returns-in_err-calls : goal.returns-in_err-calls
returns-in_err-calls g c = λ a f v.
    let e = c.number-number.ensures in
    let p = spots a.0 v c.in-Some.is a.1 in
    absurd (c.in_err-calls.ensures p.1 (rw e (met p.3 (omega arith))))

pub returns-in_err-length : goal.returns-in_err-length
returns-in_err-length g c = λ a f v.
    let q = err_from_is_err_and c.from_residual-in_err-length.result c.from_residual-in_err-length.ensures.1 in
    let e = c.number-number.ensures in
    let p = spots a.0 v c.in-Some.is a.1 in
    let w = rw e at (c.in_ok-calls.ensures p.1 (rw e (met p.3 (omega arith)))) in
    rw (q.1, q.2) (stopped p.3 w [] (c.in_err-length.ensures p.3.large))

pub returns-then-saturating_sub-calls : goal.returns-then-saturating_sub-calls
returns-then-saturating_sub-calls g c = λ a f v.
    let e = c.number-number.ensures in
    let h = c.at-then-saturating_sub-calls.ensures in
    let p = spots a.0 v c.in-Some.is a.1 in
    let w = rw e at (c.in_ok-calls.ensures p.1 (rw e (met p.3 (omega arith)))) in
    let lt : c.args.count - 1 - c.args.survey.now.length < c.in_ok-calls.calls = omega arith in
    rw (h, e) (no_slot p.3 w (c.in_ok-length.ensures p.3.large) lt)

pub returns-in_err-puncture : goal.returns-in_err-puncture
returns-in_err-puncture g c = λ a f v.
    let q = err_from_is_err_and c.from_residual-in_err-puncture.result c.from_residual-in_err-puncture.ensures.1 in
    let e = c.number-number.ensures in
    let p = spots a.0 v c.in-Some.is a.1 in
    let w = rw e at (c.in_ok-calls.ensures p.1 (rw e (met p.3 (omega arith)))) in
    let le : c.in_ok-calls.calls ≤ c.args.count - 1 - c.args.survey.now.length = omega arith in
    let o = c.in_ok-length.ensures p.3.large in
    rw (q.1, q.2) (failed_at p.3 w o le (rw e at (c.in_err-puncture.ensures.did (kit_of (g.G.Generator.meaning c.args.generator.now) (g.S.Sealer.meaning c.args.sealer.now)) f p.0 p.1 p.2 (rw e (gives p.3 w o le)))))

pub returns : goal.returns
returns g c = λ a f v.
    let e = c.number-number.ensures in
    let p = spots a.0 v c.in-Some.is a.1 in
    let w = rw e at (c.in_ok-calls.ensures p.1 (rw e (met p.3 (omega arith)))) in
    let le : c.in_ok-calls.calls ≤ c.args.count - 1 - c.args.survey.now.length = omega arith in
    let o = c.in_ok-length.ensures p.3.large in
    done p.3 w o le (rw e at (c.in_ok-puncture.ensures.did (kit_of (g.G.Generator.meaning c.args.generator.now) (g.S.Sealer.meaning c.args.sealer.now)) f p.0 p.1 p.2 (rw e (gives p.3 w o le))))
