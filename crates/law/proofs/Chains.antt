-- Chains in slots, put together from two: their slots, their nodes with values, and how each record leads to the next.
use Rattle.std.proofs.Common.{◌≡◌, ℕ, ◌<◌, List, [], ◌∷◌, ◌++◌, length, refl, inl, inr, arith}
use Rattle.device.specs.Effects.{Slots}
use Rattle.tree.specs.Cover.{In, Distinct}
use Rattle.chain.proofs.Members.{slot_left, slot_right, slot_cases}
use Rattle.chain.specs.Reading.{Link, slots_of}
use Rattle.chain.specs.Listing.{entry}
use Rattle.law.proofs.Invariant.{Linked}

-- ---- the slots
-- no two the same, in both of two chains and across them
pub record Apart (xs ys : List Link) : Type 0 where
  pub front : Distinct (slots_of xs)
  pub back : Distinct (slots_of ys)
  pub cross : (j : ℕ) → In j (slots_of xs) → In j (slots_of ys) → ⊥

pub apart_parts : (xs ys : List Link) → Distinct (slots_of (xs ++ ys)) → Apart xs ys
apart_parts [] ys a = record { front = tt; back = a; cross = λ j m n. m }
apart_parts (x ∷ xs) ys a =
    let r = apart_parts xs ys a.1 in
    record {
      front = (λ m. a.0 (slot_left x.slot xs ys m), r.front);
      back = r.back;
      cross = λ j m n. elim m [ inl q ↦ a.0 (slot_right x.slot xs ys (rw q at n)) | inr i ↦ r.cross j i n ];
    }

pub apart_append : (xs ys : List Link) → Apart xs ys → Distinct (slots_of (xs ++ ys))
apart_append [] ys a = a.back
apart_append (x ∷ xs) ys a = (
  λ m. elim (slot_cases x.slot xs ys m) [ inl p ↦ a.front.0 p | inr p ↦ a.cross x.slot (inl refl) p ],
  apart_append xs ys (record { front = a.front.1; back = a.back; cross = λ j m. a.cross j (inr m) }),
)

-- ---- linked chains
pub entry_append : (xs ys : List Link) (i : ℕ) → entry (xs ++ ys) i ≡ entry xs (entry ys i)
entry_append [] ys i = refl
entry_append (x ∷ xs) ys i = refl

pub linked_append : (s : Slots) (xs ys : List Link) (i : ℕ) → Linked s xs (entry ys i) → Linked s ys i → Linked s (xs ++ ys) i
linked_append s [] ys i a b = b
linked_append s (x ∷ xs) ys i a b = (a.0, a.1, rw (entry_append xs ys i) a.2, linked_append s xs ys i a.3 b)

pub linked_parts : (s : Slots) (xs ys : List Link) (i : ℕ) → Linked s (xs ++ ys) i → Linked s xs (entry ys i) × Linked s ys i
linked_parts s [] ys i a = (tt, a)
linked_parts s (x ∷ xs) ys i a = let r = linked_parts s xs ys i a.3 in ((a.0, a.1, rw (entry_append xs ys i) at a.2, r.0), r.1)

-- the slots of a chain are slots, and not the head's
pub linked_slot : (s : Slots) (xs : List Link) (i j : ℕ) → Linked s xs i → In j (slots_of xs) → (0 < j) × (j < length s)
linked_slot s [] i j l m = absurd m
linked_slot s (x ∷ xs) i j l (inl q) = rw q (l.0, l.1)
linked_slot s (x ∷ xs) i j l (inr m) = linked_slot s xs i j l.3 m

pub not_zero : (s : Slots) (xs : List Link) (i : ℕ) → Linked s xs i → In 0 (slots_of xs) → ⊥
not_zero s xs i l m = let h = linked_slot s xs i 0 l m in omega arith
