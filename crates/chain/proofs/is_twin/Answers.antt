use Rattle.std.proofs.Common.{arith}
use Rattle.chain.proofs.Order.{twin_is}
use Rattle.chain.proofs.is_twin.Goals as goal

pub returns : goal.returns
returns c =
    twin_is 16 c.args.left c.args.right c.has_sibling.result c.requires.0 c.requires.1 (λ t. (c.has_sibling.ensures.only t).1) (λ t. c.has_sibling.ensures.all (omega arith) t)
