-- Clearing changes nothing that is shown, wherever it is cut.
use Rattle.std.proofs.Common.{◌≡◌, ℕ, ◌+◌, ◌<◌, ◌≤◌, List, [], ◌∷◌, length, set, Some, None, Option, refl, arith, sym, ◌∙◌, ⊎_elim, get_or-set_same}
use Rattle.std.proofs.Math.Seq.{set_out}
use Rattle.std.proofs.lemmas.Bool.{cases_lt, lt-ltb, le-ltb}
use Rattle.device.specs.Effects.{Slot, Slots, blank}
use Rattle.journal.specs.Layout.{mark_in, copy_in, places_in, pending_in, shown}
use Rattle.journal.specs.Writes.{Write, write_of, clear_writes_of, clear_writes, stood}
use Rattle.journal.specs.Sized.{length_shown, length_places_in}
use Rattle.journal.proofs.Views.{parts_of, slot_kept, slot_written, shown_raised, zeros_done, zeros_cut}
use Rattle.journal.proofs.Runs.{AtEachCut, none, next}

-- writes that change nothing that is shown, wherever they are cut, and leave a copy that stands for no slot
pub record Settles (s : Slots) (ws : List Write) : Type 0 where
  pub same : AtEachCut (λ t. shown t ≡ shown s) s ws
  pub low : pending_in (mark_in (stood s ws)) ≡ None

-- zeros to the mark u, where each slot's own place holds what is shown
zeros_settle : (s u : Slots) → 2 < length u → shown u ≡ shown s → places_in u ≡ shown s → AtEachCut (λ t. shown t ≡ shown s) u (write_of 0 blank ∷ [])
zeros_settle s u some same places = next (zeros_cut u some (shown s) places same) (none (zeros_done u some (shown s) places))

zeros_low : (u : Slots) → 2 < length u → pending_in (mark_in (set u 0 blank)) ≡ None
zeros_low u some = grind (arith, get_or-set_same)

module _ (s : Slots) (i : ℕ) (is : pending_in (mark_in s) ≡ Some i) (some : 2 < length s) where
  was : shown s ≡ set (places_in s) i (copy_in s)
  was = shown_raised i (parts_of s some) is

  settles_out : length (shown s) ≤ i → Settles s (write_of 0 blank ∷ [])
  settles_out h = record {
    same = zeros_settle s s some refl (sym (was ∙ set_out (places_in s) i (copy_in s) (omega (arith, length_places_in s, length_shown s))));
    low = zeros_low s some;
  }

  settles_in : i < length (shown s) → Settles s (write_of (i + 2) (copy_in s) ∷ write_of 0 blank ∷ [])
  settles_in h =
      let at = λ (x : Slot). slot_written (parts_of s some) x i (omega (arith, length_shown s)) in
      let kept = λ (x : Slot). slot_kept s i x (omega (arith, length_shown s)) is in
      let x = copy_in s in
      record { same = next (λ k. kept _) (zeros_settle s (set s (i + 2) x) (at x).long (kept x) ((at x).places ∙ sym was)); low = zeros_low (set s (i + 2) x) (at x).long }

settles_of : (s : Slots) (o : Option ℕ) → pending_in (mark_in s) ≡ o → 2 < length s → Settles s (clear_writes_of o s)
unfolding clear_writes_of
settles_of s None e some = record { same = none refl; low = e }
settles_of s (Some i) e some =
    ⊎_elim
    (λ h. rw (lt-ltb i (length (shown s)) h) (settles_in s i e some h))
    (λ h. rw (le-ltb i (length (shown s)) h) (settles_out s i e some h))
    (cases_lt i (length (shown s)))

pub settles : (s : Slots) → 2 < length s → Settles s (clear_writes s)
settles s some = settles_of s (pending_in (mark_in s)) refl some
