use Rattle.std.proofs.Common.{◌-◌, Bool, not, ℕ, rules, tests, sym, refl, ◌∙◌}
use Rattle.std.proofs.lemmas.Iterator.{YieldsList-from_range}
use Rattle.std.proofs.lemmas.Iterator.Adapters.{option_map_id}
use Rattle.std.proofs.lemmas.Iterator.Search.{find_from_yields_List}
use Rattle.marks.specs.Rows.{is_marked}
use Rattle.marks.proofs.Laws.{first_found}
use Rattle.marks.proofs.first_unmarked.Goals as goal

pub returns : goal.returns
returns c =
    let n : ℕ = c.args.end - c.args.from in
    let free : ℕ → Bool = λ k. not (is_marked c.args.row.now k) in
    sym (option_map_id c.find.result)
    ∙ find_from_yields_List free _ _ c.find.result c.find.ensures.ran (YieldsList-from_range c.args.from c.args.end n refl refl) (λ x b q k. search (rules, tests))
    ∙ first_found c.args.row.now c.args.from n
