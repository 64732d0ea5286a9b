use Rattle.chain.proofs.Frees.{free_are}
use Rattle.chain.proofs.next_free.Goals as goal

pub returns-clause-free : goal.returns-clause-free
returns-clause-free c = free_are
