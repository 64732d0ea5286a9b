use Rattle.std.proofs.Common.{◌≡◌, ℕ, ◌<◌, List, get_or, rules}
use Rattle.std.proofs.lemmas.List.FromFn.{fill_by_all}
use Rattle.samples.specs.Rows.{journal_byte}
use Rattle.samples.proofs.journal_row.Goals as goal

pub returns : goal.returns
returns c =
    let row : List ℕ = c.from_fn.result in
    let each : (k : ℕ) → k < 650 → get_or row k 0 ≡ journal_byte k = λ k h. let one = c.from_fn.ensures.items.at k 0 h in search rules in
    fill_by_all journal_byte row 650 0 c.from_fn.ensures.items.long each
