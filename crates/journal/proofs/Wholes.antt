-- What the writes below mean above, and that they leave the unused slots alone.
use Rattle.std.proofs.Common.{◌≡◌, ℕ, ◌+◌, ◌<◌, ◌⊎◌, List, [], ◌∷◌, length, set, Some, None, Ok, Err, Option, refl, arith, ap, ◌∙◌, inl, inr, ⊎_elim, drop-set-lt}
use Rattle.std.proofs.lemmas.Bool.{cases_lt, lt-ltb, le-ltb}
use Rattle.device.specs.Effects.{Slot, Slots, State, Answer, Writing, Restarting}
use Rattle.journal.specs.Layout.{max_slots, mark_in, pending_in, unused_in, shown, state_shown}
use Rattle.journal.specs.Writes.{Write, clear_writes_of, clear_writes, place_writes, slot_writes, restart_writes, stood, Ran, Within, WritingBelow, RestartingBelow}
use Rattle.journal.specs.Sized.{length_shown}
use Rattle.journal.proofs.Runs.{stood_append, AtEachCut, none, next, AtEachCut_done, AtEachCut_short, AtEachCut_ran, at_each_cut_append, AtEachCut_weaker, within_append}
use Rattle.journal.proofs.Clearings.{Settles, settles}
use Rattle.journal.proofs.Placings.{placing, placed}

-- ---- what is shown
module _ (s : Slots) (i : ℕ) (b : Slot) (within : i < length (shown s)) where
  cleared : Settles s (clear_writes s)
  cleared = settles s (omega (arith, length_shown s))

  same : shown (stood s (clear_writes s)) ≡ shown s
  same = AtEachCut_done cleared.same

  held : i < length (shown (stood s (clear_writes s)))
  held = omega (arith, ap length same)

  written : shown (stood s (slot_writes s i b)) ≡ set (shown s) i b
  written = rw (stood_append, placed _ i b held cleared.low, same)

  writing : AtEachCut (λ t. (shown t ≡ shown s) ⊎ (shown t ≡ set (shown s) i b)) s (slot_writes s i b)
  writing =
      at_each_cut_append (clear_writes s) (place_writes i b)
      (AtEachCut_weaker (λ t e. inl e) cleared.same)
      (rw same at (placing (stood s (clear_writes s)) i b held cleared.low))

pub writing_means : (s : State) (i : ℕ) (b : Slot) (r : Answer) (t : State) → WritingBelow s i b r t → Writing (state_shown s) i b r (state_shown t)
writing_means s i b (Ok _) t (h, o, (a, q)) = (h, o, ap shown a ∙ written s.slots i b h, q)
writing_means s i b (Err e) t (inl (d, a)) = inl (d, ap state_shown a)
writing_means s i b (Err e) t (inr (h, o, (n, c, q))) = inr (n, h, o, AtEachCut_short (writing s.slots i b h) c, q)

restarting : (s : Slots) → AtEachCut (λ t. shown t ≡ shown s) s (restart_writes s)
restarting s =
    ⊎_elim
    (λ h. rw (lt-ltb 0 (length (shown s)) h) (settles s (omega (arith, length_shown s))).same)
    (λ h. rw (le-ltb 0 (length (shown s)) h) (none refl))
    (cases_lt 0 (length (shown s)))

pub restarting_means : (s : State) (r : Answer) (t : State) → RestartingBelow s r t → Restarting (state_shown s) r (state_shown t)
restarting_means s (Ok _) t (a, q) = (ap shown a ∙ AtEachCut_done (restarting s.slots), q)
restarting_means s (Err e) t (inl (n, a, q)) = (n, ap shown a, q)
restarting_means s (Err e) t (inr (n, c, q)) = (n, AtEachCut_short (restarting s.slots) c, q)

-- ---- what is not used
pub within_clear : (o : Option ℕ) (s : Slots) → Within (2 + max_slots) (clear_writes_of o s)
unfolding clear_writes_of
within_clear None s = tt
within_clear (Some i) s =
    ⊎_elim
    (λ h. rw (lt-ltb i (length (shown s)) h) (omega (arith, length_shown s)))
    (λ h. rw (le-ltb i (length (shown s)) h) (omega arith))
    (cases_lt i (length (shown s)))

unused : (z s : Slots) (ws : List Write) → Within (2 + max_slots) ws → unused_in s ≡ z → AtEachCut (λ t. unused_in t ≡ z) s ws
unused z s [] h e = none e
unused z s (w ∷ ws) h e =
    let same = λ (x : Slot). drop-set-lt (2 + max_slots) s w.slot x h.0 ∙ e in
    next (λ m. same _) (unused z (set s w.slot w.bytes) ws h.1 (same w.bytes))

pub ran_unused : (s : Slots) (ws : List Write) (r : Answer) (t : State) → Within (2 + max_slots) ws → Ran s ws r t → unused_in t.slots ≡ unused_in s
ran_unused s ws r t h d = AtEachCut_ran r t (unused (unused_in s) s ws h refl) d

within_write : (s : Slots) (i : ℕ) (b : Slot) → i < length (shown s) → Within (2 + max_slots) (slot_writes s i b)
within_write s i b h =
    let small : i < max_slots = omega (arith, length_shown s) in
    within_append (2 + max_slots) (clear_writes s) (place_writes i b) (within_clear (pending_in (mark_in s)) s) (omega arith)

within_restart : (s : Slots) → Within (2 + max_slots) (restart_writes s)
within_restart s = grind (arith, within_clear)

pub writing_unused : (s : State) (i : ℕ) (b : Slot) (r : Answer) (t : State) → WritingBelow s i b r t → unused_in t.slots ≡ unused_in s.slots
writing_unused s i b (Ok u) t (h, _, d) = ran_unused _ _ (Ok u) t (within_write s.slots i b h) d
writing_unused s i b (Err e) t (inl d) = rw d.1 refl
writing_unused s i b (Err e) t (inr (h, _, d)) = ran_unused _ _ (Err e) t (within_write s.slots i b h) d

pub restarting_unused : (s : State) (r : Answer) (t : State) → RestartingBelow s r t → unused_in t.slots ≡ unused_in s.slots
restarting_unused s (Ok u) t d = ran_unused _ _ (Ok u) t (within_restart s.slots) d
restarting_unused s (Err e) t (inl d) = ap unused_in d.1
restarting_unused s (Err e) t (inr d) = ran_unused _ _ (Err e) t (within_restart s.slots) d

pub ruleset meanings = (writing_means, restarting_means, writing_unused, restarting_unused)
