-- The five writes that put a slot's new bytes in place: what is shown is old or new, wherever they are cut.
use Rattle.std.proofs.Common.{◌≡◌, ℕ, ◌+◌, ◌/◌, ◌%◌, ◌<◌, ◌⊎◌, List, ◌∷◌, length, set, replicate, None, ap, ◌∙◌, inl, inr, arith, set-set}
use Rattle.device.specs.Effects.{Slot, Slots, torn}
use Rattle.journal.specs.Layout.{mark_in, mark_of, copy_in, pending_in, shown}
use Rattle.journal.specs.Writes.{place_writes, stood}
use Rattle.journal.proofs.Marks.{pending_in_raised, torn_low, torn_raise}
use Rattle.journal.specs.Sized.{length_shown}
use Rattle.journal.proofs.Views.{Parts, parts_of, mark_written, copy_written, slot_written, shown_low, shown_raised, zeros_done, zeros_cut}
use Rattle.journal.proofs.Runs.{AtEachCut, none, next}

-- the bytes of a mark past its flag
abbrev rest : ℕ → List ℕ
rest i = i / 256 ∷ i % 256 ∷ replicate 61 0

module _ (s : Slots) (i : ℕ) (b : Slot) (within : i < length (shown s)) (low : pending_in (mark_in s) ≡ None) where
  at_first : Parts s (mark_in s) (shown s) (copy_in s)
  at_first = let p = parts_of s (omega (arith, length_shown s)) in rw (shown_low p low) p

  -- the slots below once x is put in the copy, in the mark, in the mark again and in the place of slot i
  copied : (x : Slot) → Parts (set s 1 x) (mark_in s) (shown s) x
  copied x = copy_written at_first x

  targeted : (x : Slot) → Parts (set (set s 1 b) 0 x) x (shown s) b
  targeted x = mark_written (copied b) x

  raised : (x : Slot) → Parts (set (set (set s 1 b) 0 (mark_of 0 i)) 0 x) x (shown s) b
  raised x = mark_written (targeted (mark_of 0 i)) x

  stored : (x : Slot) → Parts (set (set (set (set s 1 b) 0 (mark_of 0 i)) 0 (mark_of 1 i)) (i + 2) x) (mark_of 1 i) (set (shown s) i x) b
  stored x = slot_written (raised (mark_of 1 i)) x i (omega (arith, length_shown s))

  shown_stored : (x : Slot) → shown (set (set (set (set s 1 b) 0 (mark_of 0 i)) 0 (mark_of 1 i)) (i + 2) x) ≡ set (shown s) i b
  shown_stored x = rw (shown_raised i (stored x) (pending_in_raised i), set-set)

  pub placed : shown (stood s (place_writes i b)) ≡ set (shown s) i b
  placed = zeros_done _ (stored b).long _ (stored b).places

  pub placing : AtEachCut (λ t. (shown t ≡ shown s) ⊎ (shown t ≡ set (shown s) i b)) s (place_writes i b)
  placing =
      next (λ k. inl (shown_low (copied _) low))
      (next (λ k. inl (shown_low (targeted _) (torn_low k (rest i) (mark_in (set s 1 b)) (ap pending_in (copied b).mark ∙ low))))
      (next (
      λ k.
      let p = raised (torn k (mark_in (set (set s 1 b) 0 (mark_of 0 i))) (mark_of 1 i)) in
      let e = ap (λ y. torn k y (mark_of 1 i)) (targeted (mark_of 0 i)).mark in
      elim (torn_raise k (rest i)) [
        | inl j ↦ inl (shown_low p (ap pending_in (e ∙ j)))
        | inr j ↦ inr (shown_raised i p (ap pending_in (e ∙ j) ∙ pending_in_raised i))
      ]
      )
      (next (λ k. inr (shown_stored _))
      (next (λ k. inr (zeros_cut _ (stored b).long _ (stored b).places (shown_stored b) k))
      (none (inr placed))))))
