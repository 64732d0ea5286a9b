-- What writes leave as it was: a slot that none of them names, and a file where none names the head's slot or one of the chain's.
use Rattle.std.proofs.Common.{◌≡◌, ℕ, zero, suc, ◌+◌, ◌<◌, ◌≤◌, true, leb, List, [], ◌∷◌, length, get_or, take, set, ap, ◌∙◌, inl, inr, refl, arith, length-set, get_or-set_other, get_or-set_same}
use Rattle.std.proofs.lemmas.Bool.{and_parts, cases_eq, leb-true}
use Rattle.device.specs.Effects.{Slot, Slots}
use Rattle.tree.specs.Cover.{In}
use Rattle.chain.specs.Reading.{Link, slots_of}
use Rattle.steps.specs.OneStep.{Write}
use Rattle.steps.specs.Writes.{stood}
use Rattle.calls.specs.Kits.{Kit}
use Rattle.calls.specs.Calls.{count_fits}
use Rattle.law.proofs.Invariant.{Linked, Stands}

-- ---- lists of writes
pub in_take : {A : Type 0} (x : A) (m : ℕ) (xs : List A) → In x (take m xs) → In x xs
in_take x zero xs i = absurd i
in_take x (suc m) [] i = absurd i
in_take x (suc m) (y ∷ ys) (inl e) = inl e
in_take x (suc m) (y ∷ ys) (inr i) = inr (in_take x m ys i)

-- no write of the list names the slot
abbrev pub Unnamed : ℕ → List Write → Type 0
Unnamed i ws = (w : Write) → In w ws → i ≡ w.slot → ⊥

pub stood_other : (s : Slots) (ws : List Write) (i : ℕ) → Unnamed i ws → get_or (stood s ws) i [] ≡ get_or s i []
stood_other s [] i f = refl
stood_other s (w ∷ ws) i f = stood_other (set s w.slot w.bytes) ws i (λ v m. f v (inr m)) ∙ get_or-set_other s w.slot i w.bytes [] (f w (inl refl))

-- a slot after writes: as it was, where none of them names it; else one of them wrote it
pub data SlotAfter (s : Slots) (ws : List Write) (i : ℕ) : Type 0 where
  kept : Unnamed i ws → get_or (stood s ws) i [] ≡ get_or s i [] → SlotAfter s ws i
  written : (w : Write) → In w ws → get_or (stood s ws) i [] ≡ w.bytes → SlotAfter s ws i

pub slot_after : (s : Slots) (ws : List Write) (i : ℕ) → i < length s → SlotAfter s ws i
slot_after s [] i l = kept (λ w m. absurd m) refl
slot_after s (w ∷ ws) i l =
    let n = length-set s w.slot w.bytes in
    elim (slot_after (set s w.slot w.bytes) ws i (omega arith)) [
      | kept u g ↦ elim (cases_eq i w.slot) [
        | inl q ↦ written w (inl refl) (g ∙ rw q (get_or-set_same s w.slot w.bytes [] (omega arith)))
        | inr q ↦ kept (λ v m e. elim m [ inl h ↦ q (e ∙ ap (λ (x : Write). x.slot) h) | inr h ↦ u v h e ]) (g ∙ get_or-set_other s w.slot i w.bytes [] q)
      ]
      | written v m g ↦ written v (inr m) g
    ]

-- ---- the count of the slots
pub count_least : (d : ℕ) (s : Slots) → count_fits d s ≡ true → d + 2 ≤ length s
count_least d s e = leb-true (d + 2) (length s) (and_parts (leb (d + 2) (length s)) (leb (length s) 1024) e).0

pub count_most : (d : ℕ) (s : Slots) → count_fits d s ≡ true → length s ≤ 1024
count_most d s e = leb-true (length s) 1024 (and_parts (leb (d + 2) (length s)) (leb (length s) 1024) e).1

pub count_kept : (d : ℕ) (s t : Slots) → length t ≡ length s → count_fits d s ≡ true → count_fits d t ≡ true
count_kept d s t e f = rw e f

-- ---- the chain
-- as many slots, of which the chain's hold what they held
linked_frame : (s t : Slots) (xs : List Link) (i : ℕ) → length t ≡ length s → ((j : ℕ) → In j (slots_of xs) → get_or t j [] ≡ get_or s j []) → Linked s xs i → Linked t xs i
linked_frame s t [] i e f l = tt
linked_frame s t (x ∷ xs) i e f l = (l.0, rw e l.1, f x.slot (inl refl) ∙ l.2, linked_frame s t xs i e (λ j m. f j (inr m)) l.3)

-- a write to a slot that is not of the chain
pub linked_set : (s : Slots) (xs : List Link) (i p : ℕ) (b : Slot) → (In p (slots_of xs) → ⊥) → Linked s xs i → Linked (set s p b) xs i
linked_set s xs i p b off l =
    linked_frame s (set s p b) xs i (length-set s p b) (λ j m. get_or-set_other s p j b [] (λ q. off (rw q at m))) l

-- ---- the file
-- each write goes to a slot other than the head's and the chain's
abbrev pub Aside : List Link → List Write → Type 0
Aside xs ws = (w : Write) → In w ws → (0 < w.slot) × (In w.slot (slots_of xs) → ⊥)

pub aside_take : (xs : List Link) (m : ℕ) (ws : List Write) → Aside xs ws → Aside xs (take m ws)
aside_take xs m ws f w i = f w (in_take w m ws i)

-- such writes keep the file
pub stands_aside : {k : Kit} {d : ℕ} {name : List ℕ} {issued : ℕ} {xs : List Link} {s : Slots} (ws : List Write) → Aside xs ws → Stands k d name issued s xs →
    Stands k d name issued (stood s ws) xs
stands_aside [] f v = v
stands_aside {d = d} {xs = xs} {s = s} (w ∷ ws) f v =
    let a = f w (inl refl) in
    stands_aside ws (λ u i. f u (inr i))
    (record {
      fits = count_kept d s (set s w.slot w.bytes) (length-set s w.slot w.bytes) v.fits;
      head = get_or-set_other s w.slot 0 w.bytes [] (λ q. omega (arith, q, a.0)) ∙ v.head;
      links = linked_set s xs 0 w.slot w.bytes a.1 v.links;
      apart = v.apart;
    })
