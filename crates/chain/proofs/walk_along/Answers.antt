use Rattle.std.proofs.Common.{◌≡◌, ℕ, suc, ◌^◌, ◌<◌, ◌≤◌, true, leb, length, None, Err, sym, ap, ◌∙◌, subst, arith}
use Rattle.std.proofs.lemmas.Result.{err_from_is_err_and}
use Rattle.std.proofs.lemmas.Bool.{and_parts, leb-true}
use Rattle.chain.specs.Reading.{walk, may_follow}
use Rattle.chain.specs.Listing.{tally_of, none_yet, row_of}
use Rattle.chain.proofs.Order.{end_within, end_after}
use Rattle.chain.proofs.Going.{ended, ended_row, far, spoilt, misplaced, onward, renamed, record_bad, good, no_chain}
use Rattle.chain.proofs.walk_along.Goals as goal

pub returns-then-next-count : goal.returns-then-next-count
returns-then-next-count g c =
    let s = g.D.ReadSlots.state c.args.device.now in
    let w = walk 16 (suc (2 ^ 16)) s.slots 0 None 0 c.args.head.now.first in
    let t = none_yet c.args.head.now.issued in
    let past : length s.slots ≤ c.loop-next.next = subst (λ (k : ℕ). k ≤ c.loop-next.next) c.count-count.ensures c.if-next-count.true in
    let is : Err c.bad_link.result ≡ tally_of 16 c.args.wanted t 0 w = ap Err c.bad_link.ensures ∙ sym (far c.loop-next.invariant.0 c.loop-next-test.true past) in
    record { is = is; marks = λ xs q. no_chain 16 c.args.wanted t 0 w c.bad_link.result xs _ _ is q }

pub returns-in_err-fields : goal.returns-in_err-fields
returns-in_err-fields g c =
    let s = g.D.ReadSlots.state c.args.device.now in
    let w = walk 16 (suc (2 ^ 16)) s.slots 0 None 0 c.args.head.now.first in
    let t = none_yet c.args.head.now.issued in
    let i = c.loop-next.next in
    let here : i < length s.slots = subst (λ (k : ℕ). i < k) c.count-count.ensures c.if-next-count.false in
    let h = c.in_err-fields.field-0.0 in
    let b = record_bad 16 s i h c.requires here c.in_err-fields.ensures in
    let p = err_from_is_err_and c.from_residual.result c.from_residual.ensures.1 in
    let e = spoilt c.loop-next.invariant.0 c.loop-next-test.true here b.0 in
    let halt : p.0 ≡ h = p.2 in
    let is : Err p.0 ≡ tally_of 16 c.args.wanted t 0 w = ap Err (halt ∙ b.1) ∙ sym e in
    record { is = p.1 ∙ is; marks = λ xs q. no_chain 16 c.args.wanted t 0 w p.0 xs _ _ is q }

pub may_follow-requires : goal.may_follow-requires
may_follow-requires g c =
    let r = good 16 _ _ _ _ c.from-node.ensures c.count-count.ensures c.if-next-count.false c.requires c.in_ok-fields.ensures in
    (c.loop-next.invariant.0.preceding, r.node)

pub returns-then-not-may_follow : goal.returns-then-not-may_follow
returns-then-not-may_follow g c =
    let w = walk 16 (suc (2 ^ 16)) (g.D.ReadSlots.state c.args.device.now).slots 0 None 0 c.args.head.now.first in
    let t = none_yet c.args.head.now.issued in
    let r = good 16 _ _ _ _ c.from-node.ensures c.count-count.ensures c.if-next-count.false c.requires c.in_ok-fields.ensures in
    let e = misplaced c.loop-next.invariant.0 c.in_ok-fields.fields c.from-node.ensures c.loop-next-test.true r.here r.is (sym c.may_follow.ensures ∙ c.if-not-may_follow.true) in
    let h = c.bad_link-then-not-may_follow.result in
    let is : Err h ≡ tally_of 16 c.args.wanted t 0 w = ap Err c.bad_link-then-not-may_follow.ensures ∙ sym e in
    record { is = is; marks = λ xs q. no_chain 16 c.args.wanted t 0 w h xs _ _ is q }

pub with-tally-requires : goal.with-tally-requires
with-tally-requires g c =
    let f = c.in_ok-fields.fields in
    let r = good 16 _ _ _ _ c.from-node.ensures c.count-count.ensures c.if-next-count.false c.requires c.in_ok-fields.ensures in
    let x = c.from-node.result in
    let start : c.loop-next.from ≤ x.first = leb-true _ _ (and_parts (leb c.loop-next.from x.first) _ (sym c.may_follow.ensures ∙ c.if-not-may_follow.false)).0 in
    (r.node, omega (arith, c.loop-next.invariant.0.few, r.node.inside))

pub end_of-from-requires : goal.end_of-from-requires
end_of-from-requires g c =
    let r = good 16 _ _ _ _ c.from-node.ensures c.count-count.ensures c.if-next-count.false c.requires c.in_ok-fields.ensures in
    r.node

pub loop-next-smaller : goal.loop-next-smaller
loop-next-smaller g c =
    let f = c.in_ok-fields.fields in
    let r = good 16 _ _ _ _ c.from-node.ensures c.count-count.ensures c.if-next-count.false c.requires c.in_ok-fields.ensures in
    let x = c.from-node.result in
    let start : c.loop-next.from ≤ x.first = leb-true _ _ (and_parts (leb c.loop-next.from x.first) _ (sym c.may_follow.ensures ∙ c.if-not-may_follow.false)).0 in
    let a = end_within 16 x r.node in
    let b = end_after 16 x in
    omega (arith, a, b, start, c.end_of-from.ensures)

pub loop-next-preserved : goal.loop-next-preserved
loop-next-preserved g c =
    let f = c.in_ok-fields.fields in
    let r = good 16 _ _ _ _ c.from-node.ensures c.count-count.ensures c.if-next-count.false c.requires c.in_ok-fields.ensures in
    let may : may_follow 16 c.loop-next.from c.loop-next.before c.from-node.result ≡ true = sym c.may_follow.ensures ∙ c.if-not-may_follow.false in (
      renamed c.end_of-from.result c.with-tally.result c.mark.new.row c.end_of-from.ensures c.with-tally.ensures c.mark.ensures.is
          (onward c.loop-next.invariant.0 f c.from-node.ensures c.loop-next-test.true r.here r.is may),
      c.read_record.array_long,
    )

pub returns : goal.returns
returns g c = record {
  is = sym (ended c.loop-next.invariant.0 c.loop-next-test.false);
  marks = λ xs q. sym (ended_row c.loop-next.invariant.0 c.loop-next-test.false) ∙ ap (row_of c.args.marks.now) q;
}
