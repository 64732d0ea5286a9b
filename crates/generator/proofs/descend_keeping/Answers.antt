use Rattle.std.proofs.Common.{arith, rules}
use Rattle.generator.proofs.Ends.{descended}
use Rattle.generator.proofs.descend_keeping.Goals as goal

pub returns-clause-answer : goal.returns-clause-answer
returns-clause-answer g c = descended _ _ _ _ _ _ _ (search rules) (grind arith) (grind arith)
