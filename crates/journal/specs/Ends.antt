-- What the slots below a journal hold once a call has ended: after a call that is done just so much, after one that was cut at least that.
use Rattle.std.specs.Prelude.{◌≡◌, ℕ, ◌+◌, true, false, cond, ◌⊎◌, length, Some, None, Ok, Err, Option, nat_lt, slice_set}
use Rattle.device.specs.declared.DeviceFault.TheVariants.{NoPower}
use Rattle.device.specs.Effects.{Slot, Slots, State, Answer, Declined, blank}
use Rattle.journal.specs.Layout.{mark_in, copy_in, unused_in, pending_in, shown, state_shown}

-- the copy written to the slot i that it stands for, if the journal has it
abbrev pub delivered : ℕ → Slots → Slots
delivered i s = cond (nat_lt i (length (shown s))) (slice_set s (i + 2) (copy_in s)) s

-- what clearing leaves below: the copy delivered and a mark of zeros, or all as it was where the copy stands for none
abbrev pub cleared_of : Option ℕ → Slots → Slots
cleared_of None s = s
cleared_of (Some i) s = slice_set (delivered i s) 0 blank

abbrev pub cleared : Slots → Slots
cleared s = cleared_of (pending_in (mark_in s)) s

-- what a restart that is done leaves below: a journal of no slots clears nothing
abbrev pub restored : Slots → Slots
restored s = cond (nat_lt 0 (length (shown s))) (cleared s) s

-- what a write of b to slot i that is done leaves below: b in the copy and in the slot's place, and a mark of zeros
abbrev pub written : Slots → ℕ → Slot → Slots
written s i b = slice_set (slice_set (slice_set (cleared s) 1 b) (i + 2) b) 0 blank

-- clearing: what is shown stays, wherever it is cut
abbrev pub Clearing : State → Answer → State → Type 0
Clearing s (Ok _) t = (s.power ≡ true) × (t.power ≡ true) × (t.slots ≡ cleared s.slots)
Clearing s (Err e) t = (e ≡ NoPower) × (t.power ≡ false) × (shown t.slots ≡ shown s.slots) × (s.power ≡ false → t.slots ≡ s.slots) × (unused_in t.slots ≡ unused_in s.slots)

-- placing b in slot i, where the copy stands for none
abbrev pub Placing : State → ℕ → Slot → Answer → State → Type 0
Placing s i b (Ok _) t = (s.power ≡ true) × (t.power ≡ true) × (t.slots ≡ slice_set (slice_set (slice_set s.slots 1 b) (i + 2) b) 0 blank)
Placing s i b (Err e) t = (e ≡ NoPower) × (t.power ≡ false) × ((shown t.slots ≡ shown s.slots) ⊎ (shown t.slots ≡ slice_set (shown s.slots) i b)) × (unused_in t.slots ≡ unused_in s.slots)

-- a write that is done leaves just what `written` says, one that is declined changes nothing, and one that is cut no unused slot
abbrev pub WritingEnds : State → ℕ → Slot → Answer → State → Type 0
WritingEnds s i b (Ok _) t = t.slots ≡ written s.slots i b
WritingEnds s i b (Err e) t = (Declined (state_shown s) i e → t ≡ s) × (unused_in t.slots ≡ unused_in s.slots)

-- a restart that is done leaves just what `restored` says, and one that is cut changes no unused slot: none at all where the journal
-- shows none
abbrev pub RestartingEnds : State → Answer → State → Type 0
RestartingEnds s (Ok _) t = t.slots ≡ restored s.slots
RestartingEnds s (Err e) t = (length (shown s.slots) ≡ 0 → t.slots ≡ s.slots) × (unused_in t.slots ≡ unused_in s.slots)
