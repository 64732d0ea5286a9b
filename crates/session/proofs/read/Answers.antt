use Rattle.std.proofs.Common.{rules, ◌≡◌, Some, Ok, Result, ap, sym, ◌∙◌, arith}
use Rattle.refusal.specs.declared.Refusal.{Refusal}
use Rattle.session.specs.declared.SessionState.{SessionState}
use Rattle.session.specs.Records.{record_suite, decode_of}
use Rattle.session.proofs.Trip.{forth, back}
use Rattle.session.proofs.read.Goals as goal

pub returns-clause-forth : goal.returns-clause-forth
unfolding decode_of
returns-clause-forth c =
    let some : record_suite c.args.bytes.now ≡ Some c.in_ok-suite.suite = search rules in
    forth c.args.bytes.now c.state_of.result (λ k. omega (arith, c.type_inv.bytes k)) (rw (some, c.state_of.ensures))

pub returns-clause-back : goal.returns-clause-back
unfolding decode_of
returns-clause-back c =
    let some : record_suite c.args.bytes.now ≡ Some c.in_ok-suite.suite = search rules in
    let is : ◌≡◌ {A = Result SessionState Refusal} (Ok c.state_of.result) (decode_of c.args.bytes.now) = rw (some, c.state_of.ensures) in
    λ s t f e. is ∙ ap decode_of (sym e) ∙ back s t f
