use Rattle.tree.proofs.Descent.{values_are, composed, key_from_is, agreed}
use Rattle.tree.proofs.Keys.{keys_of}
use Rattle.tree.proofs.values_stand.Goals as goal

pub returns : goal.returns
returns c = record { law = values_are; composed = composed; key = key_from_is; agreed = agreed; keys = keys_of }
