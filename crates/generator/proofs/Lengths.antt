-- Values keep their length on the way down.
use Rattle.std.proofs.Common.{◌≡◌, ℕ, Bool, true, false, List, [], ◌∷◌, length}
use Rattle.tree.specs.Values.{Expansion, follow}
use Rattle.generator.specs.Bytes.{value_length}
use Rattle.generator.specs.Meaning.{KeepsLength}

-- a value at the end of any way is as long as one at its start
pub follow_long : (g : Expansion) → KeepsLength g → (v : List ℕ) (bs : List Bool) → length v ≡ value_length → length (follow g v bs) ≡ value_length
follow_long g l v [] e = e
follow_long g l v (false ∷ bs) e = follow_long g l (g.left v) bs (l.on_left v e)
follow_long g l v (true ∷ bs) e = follow_long g l (g.right v) bs (l.on_right v e)
