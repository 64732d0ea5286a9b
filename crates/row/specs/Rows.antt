-- Slots that lie side by side in a row of bytes, and what the devices at the bottom share. The size of a slot is an argument of slots_in.
use Rattle.std.specs.Prelude.{ℕ, zero, suc, ◌*◌, ◌/◌, Bool, true, List, [], ◌∷◌, length, take, drop, None, Option}
use Rattle.std.proofs.Math.Seq.{paste}
use Rattle.device.specs.Effects.{Slots, State, slot_size}
use Rattle.row.specs.declared.Cut.{Cut}

-- the first n slots of w bytes each
unfoldable pub slots_in : ℕ → ℕ → List ℕ → List (List ℕ)
slots_in w zero row = []
slots_in w (suc n) row = take w row ∷ slots_in w n (drop w row)

-- a row as a device's slots: as many as it has whole ones; what bytes are left past them is no slot
abbrev pub slots_of : List ℕ → Slots
slots_of row = slots_in slot_size (length row / slot_size) row

-- the bytes that the slots lie in, whether the power is on, and the cut that is appointed
pub record Row : Type 0 where
  pub row : List ℕ
  pub power : Bool
  pub cut : Option Cut

-- what that means as a device, where slots tells which slots the bytes hold
abbrev pub state_by : (List ℕ → Slots) → Row → State
state_by slots d = record { slots = slots d.row; power = d.power }

-- over a lent row at first: the power is on, and no cut is appointed
abbrev pub fresh : List ℕ → Row
fresh row = record { row = row; power = true; cut = None }

-- with the bytes b in place from slot i on
abbrev pub placed : ℕ → List ℕ → Row → Row
placed i b d = record d { row = paste d.row (i * slot_size) b (length b) }
