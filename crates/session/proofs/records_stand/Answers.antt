use Rattle.session.proofs.Fitting.{laws, examples}
use Rattle.session.proofs.records_stand.Goals as goal

pub returns : goal.returns
returns c = record { laws = laws; examples = examples }
