use Rattle.std.proofs.Common.{◌≡◌, ◌%◌, ◌^◌, length, ap, ◌∙◌, arith}
use Rattle.sha.specs.Digest.{eight_bytes, padded, last_value}
use Rattle.sha.proofs.Feeding.{padding}
use Rattle.sha.proofs.Sha256.last_value.Goals as goal

pub returns : goal.returns
unfolding last_value eight_bytes
returns c =
    let count : c.self.inside.total ≡ length c.args.self % 2 ^ 64 = omega (arith, ap length c.self.view_is) in
    let all : c.self-2.inside.fed.bytes ≡ padded c.args.self =
    c.self-2.view_is ∙ rw (c.update-2.ensures, c.update.ensures) (padding c.args.self c.self.inside.total _ _ count c.begun.ensures c.to_be_bytes-bits.ensures) in
    rw (← all) c.self-2.invariant.hashed
