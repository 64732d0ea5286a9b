-- The slots of a device after writes, one after another.
use Rattle.std.proofs.Common.{◌≡◌, ℕ, List, [], ◌∷◌, length, set, refl, ◌∙◌, length-set}
use Rattle.std.specs.List.{fold}
use Rattle.device.specs.Effects.{Slot, Slots}

-- writes of any kind leave as many slots as there were
pub length_written : {W : Type 0} (slot : W → ℕ) (bytes : W → Slot) (s : Slots) (ws : List W) → length (fold (λ t w. set t (slot w) (bytes w)) s ws) ≡ length s
length_written slot bytes s [] = refl
length_written slot bytes s (w ∷ ws) = length_written slot bytes (set s (slot w) (bytes w)) ws ∙ length-set s (slot w) (bytes w)
