use Rattle.std.proofs.Common.{◌≡◌, ℕ, ◌*◌, List, length, ◌∙◌, arith}
use Rattle.std.proofs.lemmas.Grind.{same_number_lists}
use Rattle.std.proofs.lemmas.Simd.{length-zip2, get_or-zip2}
use Rattle.sha.specs.Digest.{added, plus, compressed}
use Rattle.sha.proofs.compress.Goals as goal

pub returns : goal.returns
unfolding compressed added plus
returns c =
    let old : List ℕ = c.args.state.now in
    let s : List ℕ = c.loop-n.last in
    let items = c.from_fn.ensures.items in
    let same : length old ≡ length s = omega arith in
    let m : 8 * c.loop-n.n ≡ 64 = omega arith in
    same_number_lists c.from_fn.result (added old s) (omega (arith, items.long, length-zip2 plus old s same))
    (λ i h. grind (arith, items.at i 0 (omega (arith, items.long)), get_or-zip2 plus old s i 0 0 0 (omega (arith, items.long)) (omega (arith, items.long))))
    ∙ rw (c.loop-n.invariant.done, m, c.schedule-w.ensures)
