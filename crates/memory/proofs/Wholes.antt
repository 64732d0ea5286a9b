-- A write as appointed is whole.
use Rattle.std.proofs.Common.{◌≡◌, ℕ, zero, suc, ◌/◌, ◌⊎◌, Option, length, take, Ok, refl, inl, inr, div-mul-le_self}
use Rattle.device.specs.Effects.{Slot, Writing, slot_size}
use Rattle.row.specs.Rows.{Row, slots_of, state_by, placed}
use Rattle.row.specs.Appointed.{answer_of, Counting, standing_in}
use Rattle.row.proofs.Meanings.{wholes}
use Rattle.memory.specs.Whole.{wholly}

either : (m : ℕ) → (wholly m ≡ 0) ⊎ (wholly m ≡ slot_size)
either zero = inl refl
either (suc m) = inr refl

pub writes : (d : Row) (i : ℕ) (b : Slot) (n k : ℕ) (o : Option ℕ) (u d' : Row) → Counting n d i (Ok o) u → d' ≡ placed i (take k b) u → n ≡ length (slots_of d.row) → k ≡ standing_in wholly o → length b ≡ slot_size → Writing (state_by slots_of d) i b (answer_of o) (state_by slots_of d')
writes = wholes (λ l. l / slot_size) (λ l. div-mul-le_self l slot_size) wholly either
