-- How many slots a journal shows, and that each has as many bytes as those below it.
use Rattle.std.specs.Prelude.{◌≡◌, ℕ, ◌+◌, ◌-◌, ◌<◌, min, [], length, get_or, set, drop, Some, None, Option, refl}
use Rattle.std.proofs.Common.{ap, ◌∙◌, ⊎_elim, add_comm, arith, length-set, length-take, length-drop, get_or-set_same, get_or-set_other, get_or-take, get_or-drop}
use Rattle.std.proofs.lemmas.Bool.{cases_eq}
use Rattle.device.specs.Effects.{Slot, Slots}
use Rattle.journal.specs.Layout.{max_slots, mark_in, copy_in, places_in, pending_in, view, shown}

length_view : (o : Option ℕ) (b : Slots) (c : Slot) → length (view o b c) ≡ length b
unfolding view
length_view None b c = refl
length_view (Some i) b c = length-set b i c

pub length_places_in : (s : Slots) → length (places_in s) ≡ min max_slots (length s - 2)
length_places_in s = simp (length-take, length-drop)

pub length_shown : (s : Slots) → length (shown s) ≡ min max_slots (length s - 2)
length_shown s = length_view (pending_in (mark_in s)) (places_in s) (copy_in s) ∙ length_places_in s

pub get_or_places_in : (s : Slots) (i : ℕ) → i < max_slots → get_or (places_in s) i [] ≡ get_or s (i + 2) []
get_or_places_in s i h = get_or-take max_slots (drop 2 s) i [] h ∙ get_or-drop 2 s i [] ∙ ap (λ k. get_or s k []) (add_comm 2 i)

view_sized : (w : ℕ) (o : Option ℕ) (b : Slots) (c : Slot) → ((k : ℕ) → k < length b → length (get_or b k []) ≡ w) → length c ≡ w → (k : ℕ) → k < length b → length (get_or (view o b c) k []) ≡ w
unfolding view
view_sized w None b c all one k h = all k h
view_sized w (Some i) b c all one k h =
    ⊎_elim
    (λ (e : k ≡ i). ap (λ j. length (get_or (set b i c) j [])) e ∙ ap length (get_or-set_same b i c [] (omega arith)) ∙ one)
    (λ (n : k ≡ i → ⊥). ap length (get_or-set_other b i k c [] n) ∙ all k h)
    (cases_eq k i)

pub shown_sized : (w : ℕ) (s : Slots) → ((k : ℕ) → k < length s → length (get_or s k []) ≡ w) → (k : ℕ) → k < length (shown s) → length (get_or (shown s) k []) ≡ w
shown_sized w s all k h =
    let p = length_places_in s in
    let l = length_shown s in
    let each : (j : ℕ) → j < length (places_in s) → length (get_or (places_in s) j []) ≡ w = λ j i. ap length (get_or_places_in s j (omega (arith, p))) ∙ all (j + 2) (omega (arith, p)) in
    view_sized w (pending_in (mark_in s)) (places_in s) (copy_in s) each (all 1 (omega (arith, p, l))) k (omega (arith, p, l))
