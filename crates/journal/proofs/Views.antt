-- What a journal shows, and how it follows from the mark, the slots in their own places and the copy.
use Rattle.std.specs.Prelude.{◌≡◌, ℕ, ◌+◌, ◌<◌, [], length, get_or, take, drop, set, Some, None, Option, ◌≢◌, replicate, refl}
use Rattle.std.proofs.Common.{ap, ◌∙◌, inl, inr, add_comm, arith, get_or-set_same, get_or-set_other, set-set, drop-set-lt}
use Rattle.std.proofs.Math.Seq.{take-set-lt}
use Rattle.std.proofs.lemmas.List.{places, drop-set-add}
use Rattle.device.specs.Effects.{Slot, Slots, torn, blank}
use Rattle.journal.specs.Layout.{max_slots, mark_in, copy_in, places_in, pending_in, view, shown}
use Rattle.journal.specs.Sized.{length_shown, length_places_in}
use Rattle.journal.proofs.Marks.{torn_clear}

pub ruleset lengths = (length_shown, length_places_in)

pub view_other : (o : Option ℕ) (i : ℕ) (b : Slots) (c : Slot) → (o ≢ Some i) → get_or (view o b c) i [] ≡ get_or b i []
unfolding view
view_other None i b c h = refl
view_other (Some j) i b c h = grind (arith, get_or-set_other)

-- a write to the mark, however few slots there are
pub mark_shown : (s : Slots) (x : Slot) → 0 < length s → shown (set s 0 x) ≡ view (pending_in x) (places_in s) (copy_in s)
mark_shown s x h =
    let m : mark_in (set s 0 x) ≡ x = get_or-set_same s 0 x [] h in
    let b : places_in (set s 0 x) ≡ places_in s = ap (take max_slots) (drop-set-lt 2 s 0 x (omega arith)) in
    let c : copy_in (set s 0 x) ≡ copy_in s = get_or-set_other s 0 1 x [] (λ e. omega arith) in
    cc

-- a write to the slot that the copy stands for: nothing changes that is shown
pub slot_kept : (s : Slots) (i : ℕ) (x : Slot) → i < max_slots → pending_in (mark_in s) ≡ Some i → shown (set s (i + 2) x) ≡ shown s
unfolding view
slot_kept s i x h e =
    let m : mark_in (set s (i + 2) x) ≡ mark_in s = get_or-set_other s (i + 2) 0 x [] (λ q. omega arith) in
    let b : places_in (set s (i + 2) x) ≡ set (places_in s) i x = rw (add_comm i 2, drop-set-add, take-set-lt max_slots (drop 2 s) i x h) refl in
    let c : copy_in (set s (i + 2) x) ≡ copy_in s = get_or-set_other s (i + 2) 1 x [] (λ q. omega arith) in
    rw (m, b, c, e, set-set) refl

-- ---- the slots below by their parts
pub record Parts (s : Slots) (m : Slot) (b : Slots) (c : Slot) : Type 0 where
  pub mark : mark_in s ≡ m
  pub places : places_in s ≡ b
  pub copy : copy_in s ≡ c
  pub long : 2 < length s

pub parts_of : (s : Slots) → 2 < length s → Parts s (mark_in s) (places_in s) (copy_in s)
parts_of s h = record { mark = refl; places = refl; copy = refl; long = h }

-- a write to each
module _ {s : Slots} {m : Slot} {b : Slots} {c : Slot} (p : Parts s m b c) (x : Slot) where
  pub mark_written : Parts (set s 0 x) x b c
  mark_written = grind (arith, places, drop-set-lt, p)

  pub copy_written : Parts (set s 1 x) m b x
  copy_written = grind (arith, places, drop-set-lt, p)

  pub slot_written : (i : ℕ) → i < max_slots → Parts (set s (i + 2) x) m (set b i x) c
  slot_written i h =
      let own : places_in (set s (i + 2) x) ≡ set b i x = rw (add_comm i 2, drop-set-add, take-set-lt max_slots (drop 2 s) i x h, p.places) refl in
      grind (arith, places, p, own)

pub shown_low : {s : Slots} {m : Slot} {b : Slots} {c : Slot} → Parts s m b c → pending_in m ≡ None → shown s ≡ b
unfolding view
shown_low p e = rw (p.mark, e) p.places

pub shown_raised : {s : Slots} {m : Slot} {b : Slots} {c : Slot} (i : ℕ) → Parts s m b c → pending_in m ≡ Some i → shown s ≡ set b i c
unfolding view
shown_raised i p e = rw (p.mark, e, p.places, p.copy) refl

module _ (s : Slots) (some : 2 < length s) where
  -- zeros to the mark, where each slot's own place holds what is shown: that stays, wherever they are cut
  module _ (v : Slots) (places : places_in s ≡ v) where
    pub zeros_done : shown (set s 0 blank) ≡ v
    zeros_done = shown_low (mark_written (parts_of s some) blank) refl ∙ places

    pub zeros_cut : shown s ≡ v → (k : ℕ) → shown (set s 0 (torn k (mark_in s) blank)) ≡ v
    zeros_cut same k =
        let p = mark_written (parts_of s some) (torn k (mark_in s) blank) in
        elim (torn_clear k (replicate 63 0) (mark_in s)) [
          | inl j ↦ rw (p.places, p.copy, p.mark, j) same
          | inr j ↦ shown_low p j ∙ places
        ]
