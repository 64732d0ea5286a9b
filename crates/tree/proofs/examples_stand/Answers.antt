use Rattle.tree.proofs.Computed.{examples}
use Rattle.tree.proofs.examples_stand.Goals as goal

pub returns : goal.returns
returns c = examples
