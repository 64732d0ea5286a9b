-- A power cut by appointment: `after` more writes are done, and the next one is cut with `standing` bytes in place.
use Rattle.std.specs.Prelude.{◌≡◌, ℕ, zero, suc, ◌*◌, ◌<◌, min, Bool, true, false, ◌⊎◌, List, length, Some, None, Ok, Err, Option, Result}
use Rattle.std.proofs.Math.Seq.{paste}
use Rattle.device.specs.declared.DeviceFault.{DeviceFault}
use Rattle.device.specs.declared.DeviceFault.TheVariants.{NoPower}
use Rattle.device.specs.Effects.{Slot, Slots, Answer, Declined, slot_size}
use Rattle.row.specs.declared.Cut.{Cut}
use Rattle.row.specs.Rows.{Row, slots_in, state_by}

-- the bytes that stand, where the very next write is to be cut
abbrev pub due_in : ℕ → ℕ → Option ℕ
due_in zero m = Some m
due_in (suc k) m = None

abbrev pub due : Option Cut → Option ℕ
due None = None
due (Some c) = due_in c.after c.standing

-- the appointment once a write has been done or cut
abbrev pub later_in : ℕ → ℕ → Option Cut
later_in zero m = None
later_in (suc k) m = Some (record { after = k; standing = m })

abbrev pub later : Option Cut → Option Cut
later None = None
later (Some c) = later_in c.after c.standing

-- appointing, in the place of an earlier appointment
abbrev pub appointed : Cut → Row → Row
appointed cut d = record d { cut = Some cut }

-- whether the power is on after a write that is not declined: it is not where the write is cut
abbrev pub on_after : Option ℕ → Bool
on_after None = true
on_after (Some m) = false

-- and what such a write answers
abbrev pub answer_of : Option ℕ → Answer
answer_of None = Ok tt
answer_of (Some m) = Err NoPower

abbrev pub counted : Row → Row
counted d = record { row = d.row; power = on_after (due d.cut); cut = later d.cut }

-- A write to slot i of n, before its bytes are put in place. Not declined: told is nothing where the write is whole, else how many of its
-- bytes are to stand.
abbrev pub Counting : ℕ → Row → ℕ → Result (Option ℕ) DeviceFault → Row → Type 0
Counting n d i (Ok o) d' = (i < n) × (d.power ≡ true) × (o ≡ due d.cut) × (d' ≡ counted d)
Counting n d i (Err e) d' = Declined (state_by (slots_in slot_size n) d) i e × (d' ≡ d)

-- how many bytes stand on a device that tears: as many as were appointed, and at most the slot's
abbrev pub partly : ℕ → ℕ
partly m = min m slot_size

-- how many bytes of a write stand that is whole or cut: stand tells how many of a cut one
abbrev pub standing_in : (ℕ → ℕ) → Option ℕ → ℕ
standing_in stand None = slot_size
standing_in stand (Some m) = stand m

-- A write of b to slot i on a device that cuts only by appointment, exactly, from d to d': slots tells which slots its row holds, and
-- stand how many bytes of a cut write are in place.
-- Done: no cut was due. Declined: nothing changes. Cut: one was due. No byte outside the slot changes in any case.
abbrev pub Struck : (ℕ → ℕ) → (List ℕ → Slots) → Row → ℕ → Slot → Answer → Row → Type 0
Struck stand slots d i b (Ok _) d' =
    (i < length (slots d.row)) × (d.power ≡ true) × (due d.cut ≡ None) × (d'.row ≡ paste d.row (i * slot_size) b slot_size) × (d'.power ≡ true) × (d'.cut ≡ later d.cut)
Struck stand slots d i b (Err e) d' =
    (Declined (state_by slots d) i e × (d' ≡ d))
    ⊎ ((e ≡ NoPower) × (i < length (slots d.row)) × (d.power ≡ true) × ((m : ℕ) × (due d.cut ≡ Some m) × (d'.row ≡ paste d.row (i * slot_size) b (stand m))) × (d'.power ≡ false) × (d'.cut ≡ later d.cut))

-- A restart on such a device: always done; row and appointment stay.
abbrev pub Restarted : Row → Answer → Row → Type 0
Restarted d r d' = (r ≡ Ok tt) × (d'.row ≡ d.row) × (d'.power ≡ true) × (d'.cut ≡ d.cut)
