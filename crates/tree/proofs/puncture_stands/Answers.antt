use Rattle.tree.proofs.Flanks.{siblings_are}
use Rattle.tree.proofs.Replacement.{punctured}
use Rattle.tree.proofs.Cuts.{punctured_at}
use Rattle.tree.proofs.Keys.{punctured_values}
use Rattle.tree.proofs.puncture_stands.Goals as goal

pub returns : goal.returns
returns c = record { siblings = siblings_are; replaced = punctured; cut = punctured_at; values = punctured_values }
