use Rattle.std.proofs.Common.{◌≡◌, ℕ, ◌≤◌, ◌-◌, List, ◌++◌, min, length, take, drop, replicate, ⊎_elim, ◌<◌, arith, ◌∙◌}
use Rattle.std.proofs.lemmas.Bool.{cases_lt}
use Rattle.octets.specs.Buffers.{filled}
use Rattle.std.proofs.lemmas.List.{drop-replicate, length-take, length-take-le, take_all}
use Rattle.std.proofs.lemmas.Slice.{drop-append-drop}
use Rattle.samples.proofs.session.Goals as goal

filled_name : (name : List ℕ) (k : ℕ) → k ≡ min (length name) 32 → take k name ++ drop k (replicate 32 0) ≡ filled (take 32 name) 32
filled_name name k is =
    let short : k ≤ 32 = omega (arith, is) in
    let part : take k name ≡ take 32 name = ⊎_elim
    (λ (gt : 32 < length name). let same : k ≡ 32 = omega (arith, is) in rw same)
    (λ (le : length name ≤ 32). rw (take_all k name (omega (arith, is)), take_all 32 name le))
    (cases_lt 32 (length name)) in
    let rest : 32 - k ≡ 32 - length (take 32 name) = omega (arith, is, length-take 32 name) in
    rw (part, drop-replicate {X = ℕ} k 32 0, rest)

pub returns-clause-fits : goal.returns-clause-fits
returns-clause-fits c = record {
  lived = omega arith;
  expires = omega arith;
  named = omega (arith, c.min-length.ensures);
  after =
      let k = c.min-length.result in
      let short : k ≤ 32 = omega (arith, c.min-length.ensures) in
      let long : length c.copy_from_slice.new.self ≡ k = c.copy_from_slice.ensures.len ∙ length-take-le k (replicate 32 0) short in
      drop-append-drop k (replicate 32 0) c.copy_from_slice.new.self k (omega arith) long ∙ drop-replicate k 32 0;
}

pub returns-clause-is : goal.returns-clause-is
returns-clause-is c =
    let k = c.min-length.result in
    let is : k ≡ min (length c.args.name.now) 32 = c.min-length.ensures in
    let name : c.copy_from_slice.new.self ++ drop k (replicate 32 0) ≡ filled (take 32 c.args.name.now) 32 = rw c.copy_from_slice.ensures.after (filled_name c.args.name.now k is) in
    rw (name, is)
