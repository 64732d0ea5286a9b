-- A write as appointed tears at most its slot.
use Rattle.std.proofs.Common.{◌≡◌, ℕ, ◌/◌, Option, length, take, Ok, div-mul-le_self}
use Rattle.device.specs.Effects.{Slot, Tearing, slot_size}
use Rattle.row.specs.Rows.{Row, slots_of, state_by, placed}
use Rattle.row.specs.Appointed.{answer_of, Counting, partly, standing_in}
use Rattle.row.proofs.Meanings.{tears}

pub writes : (d : Row) (i : ℕ) (b : Slot) (n k : ℕ) (o : Option ℕ) (u d' : Row) → Counting n d i (Ok o) u → d' ≡ placed i (take k b) u → n ≡ length (slots_of d.row) → k ≡ standing_in partly o → length b ≡ slot_size → Tearing (state_by slots_of d) i b (answer_of o) (state_by slots_of d')
writes = tears (λ l. l / slot_size) (λ l. div-mul-le_self l slot_size)
