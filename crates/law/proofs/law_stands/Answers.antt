-- The law, from what holds after every past.
use Rattle.law.proofs.law_stands.Goals as goal
use Rattle.law.proofs.LawHolds.{law_holds}

pub returns : goal.returns
returns c = law_holds
