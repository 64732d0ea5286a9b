-- How a journal lies in the slots below it, and which slots it shows. The lowest two below are the mark and the copy; the journal's own
-- slots have their places after these, from slot 2 on.
use Rattle.std.specs.Prelude.{ℕ, zero, suc, ◌+◌, ◌*◌, ◌/◌, ◌%◌, [], ◌∷◌, take, drop, replicate, Some, None, Option, slice_index, slice_index_or, slice_set}
use Rattle.device.specs.Effects.{Slot, Slots, State}

-- a journal shows at most so many slots
abbrev pub max_slots : ℕ
max_slots = 1024

abbrev pub mark_in : Slots → Slot
mark_in s = slice_index_or s 0 []

abbrev pub copy_in : Slots → Slot
copy_in s = slice_index_or s 1 []

-- what the slots of the journal hold in their own places below
abbrev pub places_in : Slots → Slots
places_in s = take max_slots (drop 2 s)

-- the slots below past the journal's last, which it never uses
abbrev pub unused_in : Slots → Slots
unused_in s = drop (2 + max_slots) s

-- a mark with a flag and a target: one byte, then two, then zeros
abbrev pub mark_of : ℕ → ℕ → Slot
mark_of flag target = flag ∷ target / 256 ∷ target % 256 ∷ replicate 61 0

-- the slot that the copy stands for: the target, where the flag is 1
abbrev pub raised : ℕ → ℕ → Option ℕ
raised zero target = None
raised (suc zero) target = Some target
raised (suc (suc n)) target = None

abbrev pub pending_in : Slot → Option ℕ
pending_in mark = raised (slice_index mark 0) (slice_index mark 1 * 256 + slice_index mark 2)

-- the copy in the place that it stands for
unfoldable pub view : Option ℕ → Slots → Slot → Slots
view None places copy = places
view (Some i) places copy = slice_set places i copy

-- the slots that the journal shows: slot i is the copy where that stands for it, else what its own place holds
abbrev pub shown : Slots → Slots
shown s = view (pending_in (mark_in s)) (places_in s) (copy_in s)

-- and as a device: its power is that of the device below
abbrev pub state_shown : State → State
state_shown s = record s { slots = shown s.slots }
