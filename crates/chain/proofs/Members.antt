-- Members of lists of links: their slots and their nodes.
use Rattle.std.proofs.Common.{◌≡◌, ℕ, ◌⊎◌, List, [], ◌∷◌, ◌++◌, map, refl, ap, inl, inr}
use Rattle.std.proofs.lemmas.List.{map-append}
use Rattle.tree.specs.Cover.{In}
use Rattle.tree.proofs.Members.{in_left, in_right, in_cases}
use Rattle.chain.specs.Reading.{Link, slots_of}
use Rattle.chain.specs.Sound.{last_slot}

pub in_map : {A B : Type 0} (f : A → B) (x : A) (xs : List A) → In x xs → In (f x) (map f xs)
in_map f x [] i = absurd i
in_map f x (y ∷ ys) (inl e) = inl (ap f e)
in_map f x (y ∷ ys) (inr i) = inr (in_map f x ys i)

-- the slots of two chains put together are those of the one and of the other
module _ (j : ℕ) (xs ys : List Link) where
  pub slot_left : In j (slots_of xs) → In j (slots_of (xs ++ ys))
  slot_left m = rw map-append (in_left j (slots_of xs) (slots_of ys) m)

  pub slot_right : In j (slots_of ys) → In j (slots_of (xs ++ ys))
  slot_right m = rw map-append (in_right j (slots_of xs) (slots_of ys) m)

  pub slot_cases : In j (slots_of (xs ++ ys)) → In j (slots_of xs) ⊎ In j (slots_of ys)
  slot_cases m = in_cases j (slots_of xs) (slots_of ys) (rw map-append at m)

-- the slot of the last one is a slot of the chain, where there is one
pub last_cases : (i : ℕ) (xs : List Link) → (last_slot i xs ≡ i) ⊎ In (last_slot i xs) (slots_of xs)
last_cases i [] = inl refl
last_cases i (x ∷ xs) = inr (last_cases x.slot xs)

-- a slot of a chain is that of one of its records
pub slot_of : (j : ℕ) (xs : List Link) → In j (slots_of xs) → (x : Link) × In x xs × (j ≡ x.slot)
slot_of j [] m = absurd m
slot_of j (x ∷ xs) (inl q) = (x, inl refl, q)
slot_of j (x ∷ xs) (inr m) = let r = slot_of j xs m in (r.0, inr r.1, r.2)
