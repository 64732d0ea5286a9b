use Rattle.std.proofs.Common.{◌≡◌, ℕ, ◌+◌, ◌-◌, List, length, take, sym, refl, ap, ◌∙◌, arith}
use Rattle.std.proofs.lemmas.List.{take_at}
use Rattle.std.proofs.lemmas.Slice.{put_mid-paste}
use Rattle.octets.specs.Buffers.{filled}
use Rattle.scheme.specs.Covering.{covered_by}
use Rattle.scheme.proofs.Covers.{covered_long}
use Rattle.scheme.proofs.Opens.{covered_zeros, tag_read, sealed_parts}
use Rattle.scheme.proofs.seal.Goals as goal

pub returns-clause-sealed : goal.returns-clause-sealed
returns-clause-sealed g c =
    let m = g.S.Scheme.meaning c.args.scheme.now in
    let lawful = g.met.S.Scheme.lawful c.args.scheme.now in
    let key : List ℕ = c.args.key.now in
    let x : ℕ = c.extra-extra.result in
    let plain : List ℕ = c.args.plain.now in
    let n : ℕ = length plain in
    let room : ℕ = length c.args.out.now in
    let bytes : List ℕ = covered_by m key plain in
    let long = lawful.tagged key c.args.heading.now bytes ∙ sym c.extra-extra.ensures in
    let laid : c.cover.new.out ≡ filled bytes room = c.cover.ensures ∙ covered_zeros (m.block key) m.size plain c.clear_both.new.out room c.clear_both.ensures.out in
    let front : take n c.cover.new.out ≡ bytes = ap (take n) laid ∙ take_at bytes _ n (covered_long (m.block key) m.size plain) in
    let end : c.copy_from_slice.new.self ≡ m.tag key c.args.heading.now bytes =
    c.copy_from_slice.ensures.after ∙ tag_read m key c.args.heading.now (lawful.tagged key c.args.heading.now) bytes c.tag.new.out x (c.tag.ensures.tagged ∙ ap (λ b. filled (m.tag key c.args.heading.now b) 32) front) c.extra-extra.ensures in (
      (omega arith, omega arith),
      omega arith,
      put_mid-paste n (n + x - n) c.cover.new.out c.copy_from_slice.new.self (m.tag key c.args.heading.now bytes) x end (omega arith) (sym long) ∙ rw laid (sealed_parts m key c.args.heading.now plain _ x room long refl (omega arith)),
    )
