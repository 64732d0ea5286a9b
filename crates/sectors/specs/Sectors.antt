-- The slots of a row of bytes that is written in whole sectors.
use Rattle.std.specs.Prelude.{ℕ, ◌*◌, ◌/◌, List, length}
use Rattle.device.specs.Effects.{Slots, slot_size}
use Rattle.row.specs.Rows.{slots_in}

-- the bytes of a sector, and its slots
abbrev pub sector_size : ℕ
sector_size = 512

abbrev pub sector_slots : ℕ
sector_slots = 8

-- the slots of a row that is written in sectors: those of its whole sectors; a broken last sector holds none
abbrev pub slots_by_sector : List ℕ → Slots
slots_by_sector row = slots_in slot_size (length row / sector_size * sector_slots) row
