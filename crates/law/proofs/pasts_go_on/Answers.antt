use Rattle.law.proofs.GoingOn.{pasts_go_on}
use Rattle.law.proofs.Outcomes.{outcomes}
use Rattle.law.proofs.pasts_go_on.Goals as goal

pub returns : goal.returns
returns c = record { calls = outcomes; pasts = pasts_go_on }
