use Rattle.std.proofs.Common.{rules}
use Rattle.std.proofs.lemmas.List.FromFn.{fill_by_all}
use Rattle.sha.specs.Digest.{word_of, scheduled}
use Rattle.sha.proofs.block_words.Goals as goal

pub returns : goal.returns
unfolding scheduled
returns c =
    let items = c.from_fn.ensures.items in
    fill_by_all (word_of c.args.block.now) c.from_fn.result 16 0 items.long (λ i h. let called = items.at i 0 h in search rules)
