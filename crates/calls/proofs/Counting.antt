-- What a finished call answers, by the levels below the node that it went down from.
use Rattle.std.proofs.Common.{◌≡◌, ℕ, ◌-◌, Ok, length, refl, ap, ◌∙◌}
use Rattle.tree.specs.declared.Node.{Node}
use Rattle.tree.specs.Values.{way_from}
use Rattle.tree.proofs.Descent.{length_way}
use Rattle.calls.specs.Calls.{Outcome, Finished}

pub by_levels : {d : ℕ} {x : Node} {n long : ℕ} {r : Outcome} → Finished d x n long r → r ≡ Ok (long, d - x.depth)
by_levels {long = long} a = a.is ∙ ap (λ (c : ℕ). Ok (long, c)) (a.counted.turns ∙ a.counted.levels)

-- a call that answers as many generator calls as the way has turns
pub finished : (d : ℕ) (x : Node) (n long : ℕ) → Finished d x n long (Ok (long, length (way_from d x n)))
finished d x n long = record { calls = length (way_from d x n); counted = record { turns = refl; levels = length_way (d - x.depth) 0 n }; is = refl }
