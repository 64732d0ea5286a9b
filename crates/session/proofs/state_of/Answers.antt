use Rattle.std.proofs.Common.{◌≡◌, ℕ, ◌≤◌, List, [], length, take, drop, refl, ◌∙◌, arith}
use Rattle.std.proofs.lemmas.List.{length-drop, length-take, length-take-le, take_rest}
use Rattle.octets.specs.Buffers.{filled}
use Rattle.session.proofs.Rows.{filled_next, filled_whole}
use Rattle.session.proofs.Laid.{suite_laid, long_laid}
use Rattle.session.specs.Records.{read_of}
use Rattle.session.proofs.state_of.Goals as goal

pub bounds-bytes-name_at : goal.bounds-bytes-name_at
bounds-bytes-name_at c = omega (arith, long_laid c.args.bytes.now c.args.suite c.requires)

pub put_part-requires-2 : goal.put_part-requires-2
put_part-requires-2 c =
    let l = suite_laid c.args.bytes.now c.args.suite c.requires in
    let whole = l.whole in
    let named = l.named in
    simp (length-take, length-drop) (omega arith)

pub returns : goal.returns
unfolding read_of
returns c =
    let l = suite_laid c.args.bytes.now c.args.suite c.requires in
    let n : c.secret_length-name_at.result ≡ 32 = c.secret_length-name_at.ensures in
    let part : List ℕ = take 32 (drop 22 c.args.bytes.now) in
    let whole : length part ≡ 32 = length-take-le 32 (drop 22 c.args.bytes.now) (omega (arith, length-drop 22 c.args.bytes.now, l.long)) in
    let secret : c.put_part.new.row ≡ part =
    c.put_part.ensures ∙ simp n (filled_next [] part 32 0 (length part) refl refl (omega arith)) ∙ filled_whole part 32 whole in
    let rest : List ℕ = drop 55 c.args.bytes.now in
    let long : length rest ≤ 32 = omega (arith, length-drop 55 c.args.bytes.now, l.whole, l.named) in
    let name : c.put_part-2.new.row ≡ filled rest 32 =
    c.put_part-2.ensures ∙ simp (n, take_rest) (filled_next [] rest 32 0 (length rest) refl refl (omega arith)) in
    rw (c.get.ensures, c.get-2.ensures, c.get-3.ensures, c.get-4.ensures, secret, name, n)
