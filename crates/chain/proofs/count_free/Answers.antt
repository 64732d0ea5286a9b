use Rattle.chain.proofs.Frees.{free_are, free_count_is}
use Rattle.chain.proofs.count_free.Goals as goal

pub returns-clause-free : goal.returns-clause-free
returns-clause-free c = free_are

pub returns-clause-sum : goal.returns-clause-sum
returns-clause-sum c = free_count_is
