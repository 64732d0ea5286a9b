-- What each call of a slot device does, from a state of the device to a state of it.
use Rattle.std.specs.Prelude.{◌≡◌, ℕ, ◌<◌, ◌≤◌, Bool, true, false, ◌⊎◌, List, [], ◌++◌, length, take, drop, replicate, Ok, Err, Result, slice_index_or, slice_set}
use Rattle.device.specs.declared.DeviceFault.{DeviceFault}
use Rattle.device.specs.declared.DeviceFault.TheVariants.{NoSuchSlot, NoPower}

-- a slot's bytes, and a row of slots
abbrev pub Slot : Type 0
Slot = List ℕ

abbrev pub Slots : Type 0
Slots = List Slot

-- how many bytes a slot has
abbrev pub slot_size : ℕ
slot_size = 64

-- the slot that holds only zeros
abbrev pub blank : Slot
blank = replicate slot_size 0

-- what a device means: the row of its slots, and whether its power is on
pub record State : Type 0 where
  pub slots : Slots
  pub power : Bool

abbrev pub Answer : Type 0
Answer = Result (Unit {0}) DeviceFault

-- why a call at the index i is declined before anything is done: the index first, then the power
abbrev pub Declined : State → ℕ → DeviceFault → Type 0
Declined s i NoSuchSlot = length s.slots ≤ i
Declined s i NoPower = (i < length s.slots) × (s.power ≡ false)

-- a read gives the slot's bytes, or zeros where it is declined
abbrev pub Reading : State → ℕ → Answer → Slot → Type 0
Reading s i (Ok _) out = (i < length s.slots) × (s.power ≡ true) × (out ≡ slice_index_or s.slots i [])
Reading s i (Err e) out = Declined s i e × (out ≡ blank)

-- A whole write. Done: the slot holds the new bytes, and no other slot changes. Declined: nothing changes. Cut: the power is off, and the
-- slot holds all of its old bytes or all of the new.
abbrev pub Writing : State → ℕ → Slot → Answer → State → Type 0
Writing s i b (Ok _) t = (i < length s.slots) × (s.power ≡ true) × (t.slots ≡ slice_set s.slots i b) × (t.power ≡ true)
Writing s i b (Err e) t =
    (Declined s i e × (t ≡ s))
    ⊎ ((e ≡ NoPower) × (i < length s.slots) × (s.power ≡ true) × ((t.slots ≡ s.slots) ⊎ (t.slots ≡ slice_set s.slots i b)) × (t.power ≡ false))

-- the first m bytes new, the rest old
abbrev pub torn : ℕ → Slot → Slot → Slot
torn m old new = take m new ++ drop m old

-- a write that can tear: as a whole write, but a cut leaves the slot's first m bytes new, for some m
abbrev pub Tearing : State → ℕ → Slot → Answer → State → Type 0
Tearing s i b (Ok _) t = (i < length s.slots) × (s.power ≡ true) × (t.slots ≡ slice_set s.slots i b) × (t.power ≡ true)
Tearing s i b (Err e) t =
    (Declined s i e × (t ≡ s))
    ⊎ ((e ≡ NoPower) × (i < length s.slots) × (s.power ≡ true) × ((m : ℕ) × (m ≤ slot_size) × (t.slots ≡ slice_set s.slots i (torn m (slice_index_or s.slots i []) b))) × (t.power ≡ false))

-- a restart changes no slot; after one that is done the power is on, after one that is cut it is off
abbrev pub Restarting : State → Answer → State → Type 0
Restarting s (Ok _) t = (t.slots ≡ s.slots) × (t.power ≡ true)
Restarting s (Err e) t = (e ≡ NoPower) × (t.slots ≡ s.slots) × (t.power ≡ false)
