-- How much of a cut write a memory keeps.
use Rattle.std.specs.Prelude.{ℕ, zero, suc}
use Rattle.device.specs.Effects.{slot_size}

-- none of its bytes or all of them
abbrev pub wholly : ℕ → ℕ
wholly zero = 0
wholly (suc m) = slot_size
