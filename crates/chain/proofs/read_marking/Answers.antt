use Rattle.std.proofs.Common.{◌≡◌, ℕ, suc, ◌^◌, true, false, ltb, List, length, Some, None, Err, sym, ap, ◌∙◌, arith, rules}
use Rattle.std.proofs.lemmas.Result.{err_from_is_err_and}
use Rattle.std.proofs.lemmas.Bool.{le-ltb}
use Rattle.octets.specs.Buffers.{zeros}
use Rattle.marks.specs.Rows.{room_of}
use Rattle.chain.specs.Reading.{walk, chain_of}
use Rattle.chain.specs.Listing.{marked_all}
use Rattle.chain.specs.Outcome.{reading_of, answer_of, marks_of}
use Rattle.chain.proofs.Judging.{head_err, head_ok, asked_is, marks_kept}
use Rattle.chain.proofs.read_marking.Goals as goal
use Rattle.chain.proofs.read_marking.Goals.{then-is_err, else-is_err}

pub returns-in_err-head : goal.returns-in_err-head
returns-in_err-head g c =
    let s = g.D.ReadSlots.state c.args.device.now in
    let m = length c.args.marks.now in
    let rd = reading_of 16 c.args.numbers m s in
    let rooms : c.room.result ≡ room_of (length s.slots) = c.room.ensures ∙ ap room_of c.count.ensures in
    let long : ltb m (room_of (length s.slots)) ≡ false = le-ltb _ _ (omega (arith, rooms, c.if-marks-room.false, c.clear.auto.b)) in
    let p = err_from_is_err_and c.from_residual.result c.from_residual.ensures.1 in
    let h = c.in_err-head.field-0.0 in
    let halt : p.0 ≡ h = p.2 in
    let e : rd ≡ Err h = head_err 16 c.args.numbers m s h long c.in_err-head.ensures in
    record {
      is = p.1 ∙ ap Err halt ∙ sym (ap (answer_of 16 c.args.asked) e);
      marks = c.clear.ensures ∙ sym (ap (marks_of m) e);
      wiped = search rules;
    }

pub returns : goal.returns
returns g c =
    let s = g.D.ReadSlots.state c.args.device.now in
    let m = length c.args.marks.now in
    let rd = reading_of 16 c.args.numbers m s in
    let rooms : c.room.result ≡ room_of (length s.slots) = c.room.ensures ∙ ap room_of c.count.ensures in
    let long : ltb m (room_of (length s.slots)) ≡ false = le-ltb _ _ (omega (arith, rooms, c.if-marks-room.false, c.clear.auto.b)) in
    let h = c.in_ok-head.head in
    let e = head_ok 16 c.args.numbers m s h long c.in_ok-head.ensures in
    let is : c.judge-survey.result ≡ answer_of 16 c.args.asked rd =
    c.judge-survey.ensures.is
    ∙ ap (λ (n : ℕ). answer_of 16 (Some n) (chain_of 16 h s.slots)) c.unwrap_or-wanted.ensures
    ∙ sym (asked_is 16 c.args.asked h (walk 16 (suc (2 ^ 16)) s.slots 0 None 0 h.first))
    ∙ sym (ap (answer_of 16 c.args.asked) e.1) in
    let same : length c.judge-survey.new.marks ≡ m = c.judge-survey.auto.marks ∙ c.clear.auto.b in
    record {
      is = is;
      marks = marks_kept 16 m c.args.asked rd c.judge-survey.result c.judge-survey.new.marks c.if-is_err.marks is
          (λ k xs r. c.judge-survey.ensures.marks k xs (sym e.1 ∙ r) ∙ ap (λ (row : List ℕ). marked_all row xs) c.clear.ensures)
          (λ t. elim c.if-is_err.branch [
            | then-is_err w ↦ w.marks-is ∙ w.clear-then-is_err.ensures ∙ ap zeros same
            | else-is_err w ↦ let z : true ≡ false = sym t ∙ sym c.is_err.ensures.value ∙ w.if-is_err.false in cc
          ])
          (λ t. elim c.if-is_err.branch [
            | then-is_err w ↦ let z : true ≡ false = sym w.if-is_err.true ∙ c.is_err.ensures.value ∙ t in cc
            | else-is_err w ↦ w.marks-is
          ]);
      wiped = search rules;
    }
