-- The writes that a journal's calls make to the slots below it, and what those hold once some of the writes stand.
use Rattle.std.specs.Prelude.{◌≡◌, ℕ, ◌+◌, ◌<◌, ◌≤◌, true, false, cond, ◌⊎◌, List, [], ◌∷◌, ◌++◌, length, Some, None, Ok, Err, Option, nat_lt, slice_index_or, slice_set}
use Rattle.std.specs.List.{fold}
use Rattle.device.specs.declared.DeviceFault.TheVariants.{NoPower}
use Rattle.device.specs.Effects.{Slot, Slots, State, Answer, Declined, slot_size, blank, torn}
use Rattle.journal.specs.Layout.{mark_in, copy_in, mark_of, pending_in, shown, state_shown}

-- to which slot below, and which bytes
pub record Write : Type 0 where
  pub slot : ℕ
  pub bytes : Slot

abbrev pub write_of : ℕ → Slot → Write
write_of i b = record { slot = i; bytes = b }

-- ---- which writes
-- the copy goes to the slot i that it stands for, if the journal has it; then zeros to the mark
unfoldable pub clear_writes_of : Option ℕ → Slots → List Write
clear_writes_of None s = []
clear_writes_of (Some i) s = cond (nat_lt i (length (shown s))) (write_of (i + 2) (copy_in s) ∷ []) [] ++ (write_of 0 blank ∷ [])

-- those that clear a flag: none where the copy stands for no slot
abbrev pub clear_writes : Slots → List Write
clear_writes s = clear_writes_of (pending_in (mark_in s)) s

-- those that put b in slot i
abbrev pub place_writes : ℕ → Slot → List Write
place_writes i b = write_of 1 b ∷ write_of 0 (mark_of 0 i) ∷ write_of 0 (mark_of 1 i) ∷ write_of (i + 2) b ∷ write_of 0 blank ∷ []

-- those of a write of b to slot i
abbrev pub slot_writes : Slots → ℕ → Slot → List Write
slot_writes s i b = clear_writes s ++ place_writes i b

-- those of a restart: a journal of no slots has nothing to clear
abbrev pub restart_writes : Slots → List Write
restart_writes s = cond (nat_lt 0 (length (shown s))) (clear_writes s) []

-- ---- what they do
-- the slots once all of the writes stand
abbrev pub stood : Slots → List Write → Slots
stood = fold (λ s w. slice_set s w.slot w.bytes)

-- the power fails at one of the writes: all before it stand, its own first bytes do, and none after it is tried
pub record CutShort (s : Slots) (ws : List Write) (t : Slots) : Type 0 where
  pub front : List Write
  pub cut : Write
  pub back : List Write
  pub are : ws ≡ front ++ (cut ∷ back)
  pub standing : ℕ
  pub few : standing ≤ slot_size
  pub slots : t ≡ slice_set (stood s front) cut.slot (torn standing (slice_index_or (stood s front) cut.slot []) cut.bytes)

-- the writes made one after another from the slots s on, with the power on: all are done, or it fails at one
abbrev pub Ran : Slots → List Write → Answer → State → Type 0
Ran s ws (Ok _) t = (t.slots ≡ stood s ws) × (t.power ≡ true)
Ran s ws (Err e) t = (e ≡ NoPower) × CutShort s ws t.slots × (t.power ≡ false)

-- each goes to one of n slots
abbrev pub Within : ℕ → List Write → Type 0
Within n [] = Unit {0}
Within n (w ∷ ws) = (w.slot < n) × Within n ws

-- ---- the calls
-- a write of b to slot i, seen below: its writes are made; or it is declined, and nothing changes
abbrev pub WritingBelow : State → ℕ → Slot → Answer → State → Type 0
WritingBelow s i b (Ok u) t = (i < length (shown s.slots)) × (s.power ≡ true) × Ran s.slots (slot_writes s.slots i b) (Ok u) t
WritingBelow s i b (Err e) t =
    (Declined (state_shown s) i e × (t ≡ s))
    ⊎ ((i < length (shown s.slots)) × (s.power ≡ true) × Ran s.slots (slot_writes s.slots i b) (Err e) t)

-- a restart, seen below: its writes are made; or the power fails before the first, and no slot changes
abbrev pub RestartingBelow : State → Answer → State → Type 0
RestartingBelow s (Ok u) t = Ran s.slots (restart_writes s.slots) (Ok u) t
RestartingBelow s (Err e) t = ((e ≡ NoPower) × (t.slots ≡ s.slots) × (t.power ≡ false)) ⊎ Ran s.slots (restart_writes s.slots) (Err e) t
