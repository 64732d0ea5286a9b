-- The writes that a call makes below end in what is promised of its end.
use Rattle.std.proofs.Common.{◌≡◌, ℕ, ◌+◌, ◌<◌, true, [], length, set, Some, None, Ok, Err, Option, refl, arith, ap, ◌∙◌, inl, inr, set-set}
use lib.Seq.{set_comm}
use Rattle.std.proofs.lemmas.List.{length-append}
use Rattle.device.specs.declared.DeviceFault.TheVariants.{NoSuchSlot, NoPower}
use Rattle.device.specs.Effects.{Slot, Slots, State, Answer, blank}
use Rattle.journal.specs.Layout.{mark_in, pending_in, shown}
use Rattle.journal.specs.Writes.{Write, clear_writes_of, clear_writes, place_writes, slot_writes, restart_writes, stood, CutShort, Ran, WritingBelow, RestartingBelow}
use Rattle.journal.specs.Ends.{cleared_of, cleared, restored, written, Clearing, Placing, WritingEnds, RestartingEnds}
use Rattle.journal.specs.Sized.{length_shown}
use Rattle.journal.proofs.Runs.{stood_append, AtEachCut_short}
use Rattle.journal.proofs.Clearings.{settles}
use Rattle.journal.proofs.Placings.{placing}
use Rattle.journal.proofs.Wholes.{ran_unused, within_clear, writing_unused, restarting_unused}

clear_ends_of : (o : Option ℕ) (s : Slots) → stood s (clear_writes_of o s) ≡ cleared_of o s
unfolding clear_writes_of
clear_ends_of None s = refl
clear_ends_of (Some i) s = grind arith

pub clear_ends : (s : Slots) → stood s (clear_writes s) ≡ cleared s
clear_ends s = clear_ends_of (pending_in (mark_in s)) s

-- the slots below once all five writes of a slot are done
pub place_ends : (s : Slots) (i : ℕ) (b : Slot) → stood s (place_writes i b) ≡ set (set (set s 1 b) (i + 2) b) 0 blank
place_ends s i b = grind (arith, set-set, set_comm)

pub write_ends : (s : Slots) (i : ℕ) (b : Slot) → stood s (slot_writes s i b) ≡ written s i b
write_ends s i b = rw (stood_append, place_ends, clear_ends)

pub restart_ends : (s : Slots) → stood s (restart_writes s) ≡ restored s
restart_ends s = grind (arith, clear_ends)

-- ---- the relations
pub writing_ends : (s : State) (i : ℕ) (b : Slot) (r : Answer) (t : State) → WritingBelow s i b r t → WritingEnds s i b r t
writing_ends s i b (Ok u) t (h, o, (a, q)) = a ∙ write_ends s.slots i b
writing_ends s i b (Err NoSuchSlot) t d = ((λ k. elim d [ inl z ↦ z.1 | inr z ↦ absurd (omega (arith, z.0, k)) ]), writing_unused s i b (Err NoSuchSlot) t d)
writing_ends s i b (Err NoPower) t d = ((λ k. elim d [ inl z ↦ z.1 | inr z ↦ absurd cc ]), writing_unused s i b (Err NoPower) t d)

never_cut : (s t : Slots) → CutShort s [] t → ⊥
never_cut s t c = omega (arith, ap length c.are, length-append {A = Write})

pub restarting_ends : (s : State) (r : Answer) (t : State) → RestartingBelow s r t → RestartingEnds s r t
restarting_ends s (Ok u) t (a, q) = a ∙ restart_ends s.slots
restarting_ends s (Err e) t (inl d) = ((λ z. d.1), restarting_unused s (Err e) t (inl d))
restarting_ends s (Err e) t (inr d) = ((λ z. absurd (never_cut s.slots t.slots (simp z at d.1))), restarting_unused s (Err e) t (inr d))

pub clearing_ends : (s : State) (r : Answer) (t : State) → s.power ≡ true → 2 < length s.slots → Ran s.slots (clear_writes s.slots) r t → Clearing s r t
clearing_ends s (Ok u) t o some (a, q) = (o, q, a ∙ clear_ends s.slots)
clearing_ends s (Err e) t o some (n, c, q) =
    (n, q, AtEachCut_short (settles s.slots some).same c, (λ off. absurd cc), ran_unused _ _ (Err e) t (within_clear (pending_in (mark_in s.slots)) s.slots) (n, c, q))

pub placing_ends : (s : State) (i : ℕ) (b : Slot) (r : Answer) (t : State) → s.power ≡ true → i < length (shown s.slots) → pending_in (mark_in s.slots) ≡ None → Ran s.slots (place_writes i b) r t → Placing s i b r t
placing_ends s i b (Ok u) t o h low (a, q) = (o, q, a ∙ place_ends s.slots i b)
placing_ends s i b (Err e) t o h low (n, c, q) =
    (n, q, AtEachCut_short (placing s.slots i b h low) c, ran_unused s.slots (place_writes i b) (Err e) t (omega (arith, length_shown s.slots)) (n, c, q))

pub ruleset endings = (writing_ends, restarting_ends)
