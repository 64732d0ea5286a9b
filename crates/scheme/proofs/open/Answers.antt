use Rattle.std.proofs.Common.{ℕ, List, refl, ◌∙◌, arith}
use Rattle.std.proofs.lemmas.Bool.{false≢true}
use Rattle.scheme.specs.Covering.{covered_by}
use Rattle.scheme.proofs.Covers.{covered_long}
use Rattle.scheme.proofs.Opens.{covered_zeros, other_tag, same_tag}
use Rattle.scheme.proofs.open.Goals as goal

pub returns-then-not-same_bytes-clause-opened : goal.returns-then-not-same_bytes-clause-opened
returns-then-not-same_bytes-clause-opened g c = (
  omega arith,
  other_tag _ _ _ ((g.met.S.Scheme.lawful c.args.scheme.now).tagged c.args.key.now c.args.heading.now) c.args.sealed.now _ _ _ _ c.tag.ensures.tagged c.extra-extra.ensures c.split_at.ensures.by_index.0 (omega (arith, c.in-Some.ensures)) (λ e. false≢true (c.if-not-same_bytes.ensures.1 e)),
  c.clear_both.ensures.out,
)

pub returns-clause-opened : goal.returns-clause-opened
returns-clause-opened g c =
    let m = g.S.Scheme.meaning c.args.scheme.now in
    let bytes : List ℕ = c.split_at.result.0.now in (
      omega arith,
      (
        covered_by m c.args.key.now bytes,
        (
          same_tag m _ _ ((g.met.S.Scheme.lawful c.args.scheme.now).tagged c.args.key.now c.args.heading.now) c.args.sealed.now bytes _ _ _ c.tag.ensures.tagged c.extra-extra.ensures c.split_at.ensures.by_index.0 (omega arith) (c.if-not-same_bytes.ensures.0 refl),
          omega (arith, covered_long (m.block c.args.key.now) m.size bytes),
          c.cover.ensures ∙ covered_zeros (m.block c.args.key.now) m.size bytes c.clear_both.new.out _ c.clear_both.ensures.out,
        ),
      ),
    )
