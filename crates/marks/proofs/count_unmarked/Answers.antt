use Rattle.std.proofs.Common.{◌-◌, Bool, not, ℕ, length, rules, tests, refl, ap, ◌∙◌}
use Rattle.std.proofs.lemmas.Iterator.{YieldsList-from_range}
use Rattle.std.proofs.lemmas.Iterator.Consumers.{YieldsList-at, YieldsList-from_filter, count_from_yields_List}
use Rattle.marks.specs.Rows.{is_marked}
use Rattle.marks.proofs.Laws.{filtered}
use Rattle.marks.proofs.count_unmarked.Goals as goal

pub returns : goal.returns
returns c =
    let n : ℕ = c.args.end - c.args.from in
    let free : ℕ → Bool = λ k. not (is_marked c.args.row.now k) in
    count_from_yields_List c.filter.result c.count.result c.count.ensures.ran
    (YieldsList-from_filter _ free (YieldsList-at c.filter.ensures.source (YieldsList-from_range c.args.from c.args.end n refl refl)) c.filter.ensures.closure (λ x b q k. search (rules, tests)))
    ∙ ap length (filtered c.args.row.now c.args.from n)
