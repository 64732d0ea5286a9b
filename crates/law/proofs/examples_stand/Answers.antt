use Rattle.law.proofs.Worked.{all_examples}
use Rattle.law.proofs.examples_stand.Goals as goal

pub returns : goal.returns
returns c = all_examples
