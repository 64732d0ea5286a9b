-- What a journal reads.
use Rattle.std.specs.Prelude.{◌≡◌, ℕ, ◌+◌, ◌<◌, [], length, Some, Ok, Err, ◌≢◌}
use Rattle.std.proofs.Common.{sym, ◌∙◌, arith, get_or-set_same}
use Rattle.device.specs.declared.DeviceFault.TheVariants.{NoSuchSlot, NoPower}
use Rattle.device.specs.Effects.{Slot, State, Answer, Reading}
use Rattle.journal.specs.Layout.{mark_in, copy_in, places_in, pending_in, shown, state_shown}
use Rattle.journal.specs.Sized.{length_places_in, length_shown, get_or_places_in}
use Rattle.journal.proofs.Views.{view_other, parts_of, shown_raised}

pub read_copy : (s : State) (i : ℕ) (r : Answer) (out : Slot) → i < length (shown s.slots) → pending_in (mark_in s.slots) ≡ Some i → Reading s 1 r out → Reading (state_shown s) i r out
read_copy s i (Ok _) out h e d =
    let same = shown_raised i (parts_of s.slots (omega (arith, length_shown s.slots))) e in
    (h, d.1, d.2 ∙ rw same (sym (get_or-set_same (places_in s.slots) i (copy_in s.slots) [] (omega (arith, length_shown s.slots, length_places_in s.slots)))))
read_copy s i (Err NoSuchSlot) out h e d = grind (arith, length_shown)
read_copy s i (Err NoPower) out h e d = ((h, d.0.1), d.1)

pub read_place : (s : State) (i : ℕ) (r : Answer) (out : Slot) → i < length (shown s.slots) → (pending_in (mark_in s.slots) ≢ Some i) → Reading s (i + 2) r out → Reading (state_shown s) i r out
read_place s i (Ok _) out h e d = grind (arith, view_other, get_or_places_in, length_shown)
read_place s i (Err NoSuchSlot) out h e d = grind (arith, length_shown)
read_place s i (Err NoPower) out h e d = ((h, d.0.1), d.1)

pub ruleset reading = (read_copy, read_place)
