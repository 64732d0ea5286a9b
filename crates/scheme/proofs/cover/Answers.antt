use Rattle.std.proofs.Common.{◌≡◌, ℕ, ◌+◌, ◌-◌, ◌*◌, List, ◌++◌, length, take, drop, min, sym, refl, ap, ◌∙◌, add-mul, rules, arith}
use Rattle.std.proofs.lemmas.List.{length-drop, drop-drop, drop_at, drop_min, take_at, take_all, take-append-drop}
use Rattle.std.proofs.lemmas.Slice.{drop-put_mid}
use Rattle.std.specs.Slice.Iter.{chunks_rest}
use Rattle.scheme.specs.Covering.{covered}
use Rattle.scheme.proofs.Covers.{laid, further, covered_long}
use Rattle.scheme.proofs.cover.Goals as goal

pub loop-index-preserved : goal.loop-index-preserved
loop-index-preserved g c =
    let i : ℕ = c.in-Some.index in
    let size : ℕ = c.size-size.result in
    let at : ℕ = i * size in
    let plain : List ℕ = c.args.plain.now in
    let part : List ℕ = c.in-Some.part.now in
    let m : ℕ = length part in
    let left : List ℕ = chunks_rest c.next.new.self.iter in
    let stream : ℕ → List ℕ = (g.S.Scheme.meaning c.args.scheme.now).block c.args.key.now in
    let steps = c.in-Some.ensures.steps in
    let parts : drop at plain ≡ part ++ left = ap (λ k. drop (k * size) plain) steps.1 ∙ sym c.loop-index.invariant.rest ∙ steps.0.1.0 in
    let long : length plain - at ≡ length (chunks_rest c.loop-index.index-iterator.iter) = sym (length-drop at plain) ∙ ap length (parts ∙ sym steps.0.1.0) in
    let after : c.next.new.self.count * size ≡ at + size = ap (λ k. k * size) (steps.2 ∙ ap (λ k. k + 1) (sym steps.1)) ∙ omega (arith, add-mul i 1 size) in
    let next : at + m ≡ min (c.next.new.self.count * size) (length plain) = omega (arith, steps.0.1.1, steps.0.1.2) in
    let before : at ≡ min (c.loop-index.index-iterator.count * size) (length plain) = omega (arith, ap (λ k. k * size) steps.1, steps.0.1.2) in
    let front : take at c.loop-index.out ≡ take at (covered stream size plain) =
    ap (λ k. take k c.loop-index.out) before ∙ c.loop-index.invariant.front ∙ ap (λ k. take k (covered stream size plain)) (sym before) in
    let whole : length (stream i) ≡ size = (g.met.S.Scheme.lawful c.args.scheme.now).whole c.args.key.now i ∙ sym c.size-size.ensures in
    let block : take size c.block.new.pad ≡ stream i = ap (take size) c.block.ensures ∙ take_at (stream i) _ size whole in
    let row = laid stream size plain part left c.block.new.pad c.lay.new.out i parts (omega arith) (omega arith) c.lay.ensures block in
    record {
      next = search rules;
      ends = search rules;
      size = search rules;
      rest = sym (drop_at part left m refl) ∙ ap (drop m) (sym parts) ∙ drop-drop m at plain ∙ ap (λ k. drop k plain) next ∙ drop_min (c.next.new.self.count * size) plain;
      front = further stream size plain c.loop-index.out c.lay.new.out at (at + m - at) m (min (c.next.new.self.count * size) (length plain)) (omega arith) (omega arith) (sym next) front row;
      left = drop-put_mid at (at + m - at) c.loop-index.out c.lay.new.out (length plain) (omega arith) (omega arith) (omega arith) ∙ c.loop-index.invariant.left;
    }

pub returns : goal.returns
returns g c =
    let stream : ℕ → List ℕ = (g.S.Scheme.meaning c.args.scheme.now).block c.args.key.now in
    let size : ℕ = c.size-size.result in
    let plain : List ℕ = c.args.plain.now in
    let n : ℕ = length plain in
    let out : List ℕ = c.loop-index.out in
    let count : ℕ = c.loop-index.index-iterator.count in
    let all : n ≡ min (count * size) n = omega (arith, c.in-None.ensures.steps.0.1.0, ap length c.loop-index.invariant.rest, length-drop (count * size) plain) in
    let front : take n out ≡ covered stream size plain =
    ap (λ k. take k out) all ∙ c.loop-index.invariant.front ∙ take_all (min (count * size) n) (covered stream size plain) (omega (arith, covered_long stream size plain)) in
    sym (take-append-drop n out) ∙ rw (front, c.loop-index.invariant.left) (ap (λ x. covered stream x plain ++ drop n c.args.out.now) c.size-size.ensures)
