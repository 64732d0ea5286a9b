use Rattle.tree.proofs.Places.{characterised}
use Rattle.tree.proofs.Exact.{in_order, exactly, at_most_one, exhausted}
use Rattle.tree.proofs.Fewest.{least}
use Rattle.tree.proofs.Bounds.{few, same_set}
use Rattle.tree.proofs.cover_stands.Goals as goal

pub returns : goal.returns
returns c = record { characterised = characterised; order = in_order; exactly = exactly; once = at_most_one; exhausted = exhausted; least = least; set = same_set; few = few }
