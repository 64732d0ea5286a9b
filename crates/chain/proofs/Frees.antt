-- The slots without a mark are those off the chain.
use Rattle.std.proofs.Common.{◌≡◌, ℕ, zero, suc, ◌+◌, ◌-◌, ◌<◌, ◌≤◌, Bool, true, false, ◌⊎◌, List, [], ◌∷◌, length, sym, refl, ap, ◌∙◌, subst, inl, inr, ⊎_elim, arith}
use Rattle.std.proofs.lemmas.List.{length-replicate}
use Rattle.std.proofs.lemmas.Bool.{cases_Bool, cases_eq}
use Rattle.octets.specs.Buffers.{zeros}
use Rattle.marks.specs.Rows.{room_of, is_marked, with_mark, listed, unmarked}
use Rattle.marks.proofs.Laws.{mark_laws}
use Rattle.tree.specs.Cover.{In, Distinct}
use Rattle.chain.specs.Reading.{Link, slots_of}
use Rattle.chain.specs.Listing.{marked_all}
use Rattle.chain.specs.Sound.{FreeAre, FreeCount}

-- ---- marks along a chain
module _ (count i : ℕ) (lt : i < count) where
  marked_stays : (xs : List Link) (row : List ℕ) → room_of count ≤ length row → is_marked row i ≡ true → is_marked (marked_all row xs) i ≡ true
  marked_stays [] row r e = e
  marked_stays (x ∷ xs) row r e =
      let long : room_of count ≤ length (with_mark row x.slot) = subst (λ (k : ℕ). room_of count ≤ k) (sym (mark_laws.long row x.slot)) r in
      marked_stays xs (with_mark row x.slot) long
      (⊎_elim
      (λ (q : i ≡ x.slot). subst (λ (k : ℕ). is_marked (with_mark row k) i ≡ true) q (mark_laws.same row count i r lt))
      (λ (q : i ≡ x.slot → ⊥). mark_laws.other row x.slot i q ∙ e)
      (cases_eq i x.slot))

  pub marked_in : (xs : List Link) (row : List ℕ) → room_of count ≤ length row → In i (slots_of xs) → is_marked (marked_all row xs) i ≡ true
  marked_in [] row r m = absurd m
  marked_in (x ∷ xs) row r m =
      let long : room_of count ≤ length (with_mark row x.slot) = subst (λ (k : ℕ). room_of count ≤ k) (sym (mark_laws.long row x.slot)) r in
      elim m [
        | inl q ↦ marked_stays xs (with_mark row x.slot) long (subst (λ (k : ℕ). is_marked (with_mark row k) i ≡ true) q (mark_laws.same row count i r lt))
        | inr n ↦ marked_in xs (with_mark row x.slot) long n
      ]

pub unmarked_off : (i : ℕ) (xs : List Link) (row : List ℕ) → (In i (slots_of xs) → ⊥) → is_marked row i ≡ false → is_marked (marked_all row xs) i ≡ false
unmarked_off i [] row f e = e
unmarked_off i (x ∷ xs) row f e = unmarked_off i xs (with_mark row x.slot) (λ m. f (inr m)) (mark_laws.other row x.slot i (λ q. f (inl q)) ∙ e)

-- ---- the list of the slots without a mark
pub of_unmarked : (n : ℕ) (row : List ℕ) (from i : ℕ) → In i (unmarked row from n) → (from ≤ i) × (i < from + n) × (is_marked row i ≡ false)
of_unmarked zero row from i m = absurd m
of_unmarked (suc n) row from i m = ⊎_elim
    (λ (t : is_marked row from ≡ true). let r = of_unmarked n row (suc from) i (rw t at m) in (omega (arith, r.0), omega (arith, r.1), r.2))
    (λ (t : is_marked row from ≡ false).
    let q : (i ≡ from) ⊎ In i (unmarked row (suc from) n) = rw t at m in
    ⊎_elim
    (λ (e : i ≡ from). (omega arith, omega arith, subst (λ (k : ℕ). is_marked row k ≡ false) (sym e) t))
    (λ (k : In i (unmarked row (suc from) n)). let r = of_unmarked n row (suc from) i k in (omega (arith, r.0), omega (arith, r.1), r.2))
    q)
    (cases_Bool (is_marked row from))

in_listed : (b : Bool) (from i : ℕ) (is : List ℕ) → In i is → In i (listed b from is)
in_listed true from i is m = m
in_listed false from i is m = inr m

pub in_unmarked : (n : ℕ) (row : List ℕ) (from i : ℕ) → from ≤ i → i < from + n → is_marked row i ≡ false → In i (unmarked row from n)
in_unmarked zero row from i l u e = absurd (omega arith)
in_unmarked (suc n) row from i l u e = ⊎_elim
    (λ (q : i ≡ from). let t : is_marked row from ≡ false = subst (λ (k : ℕ). is_marked row k ≡ false) q e in rw t (inl q))
    (λ (q : i ≡ from → ⊥). in_listed (is_marked row from) from i (unmarked row (suc from) n) (in_unmarked n row (suc from) i (omega arith) (omega arith) e))
    (cases_eq i from)

pub free_are : FreeAre
free_are m count from xs i r = grind (arith, length-replicate, of_unmarked, marked_in, in_unmarked, unmarked_off, mark_laws)

-- ---- how many there are
pub same_unmarked : (n from : ℕ) (row other : List ℕ) → ((k : ℕ) → from ≤ k → is_marked row k ≡ is_marked other k) → unmarked row from n ≡ unmarked other from n
same_unmarked zero from row other f = refl
same_unmarked (suc n) from row other f = let r = same_unmarked n (suc from) row other (λ k l. f k (omega arith)) in grind arith

-- two lists of which one is longer by one stay so with one more slot before them
pub one_less : (b : Bool) (from : ℕ) (xs ys : List ℕ) → length xs + 1 ≡ length ys → length (listed b from xs) + 1 ≡ length (listed b from ys)
one_less true from xs ys e = e
one_less false from xs ys e = omega arith

-- a slot that is marked is one free slot less
pub less_unmarked : (n from count i : ℕ) (row : List ℕ) → room_of count ≤ length row → i < count → from ≤ i → i < from + n → is_marked row i ≡ false →
    length (unmarked (with_mark row i) from n) + 1 ≡ length (unmarked row from n)
less_unmarked zero from count i row r c l u e = absurd (omega arith)
less_unmarked (suc n) from count i row r c l u e = ⊎_elim
    (λ (q : i ≡ from).
    let t : is_marked (with_mark row i) from ≡ true = subst (λ (k : ℕ). is_marked (with_mark row i) k ≡ true) q (mark_laws.same row count i r c) in
    let f : is_marked row from ≡ false = subst (λ (k : ℕ). is_marked row k ≡ false) q e in
    let s : unmarked (with_mark row i) (suc from) n ≡ unmarked row (suc from) n =
    same_unmarked n (suc from) (with_mark row i) row (λ k h. mark_laws.other row i k (λ w. omega arith)) in
    rw (t, f) (omega (arith, ap length s)))
    (λ (q : i ≡ from → ⊥).
    let o : is_marked (with_mark row i) from ≡ is_marked row from = mark_laws.other row i from (λ w. q (sym w)) in
    let h = less_unmarked n (suc from) count i row r c (omega arith) (omega arith) e in
    rw o (one_less (is_marked row from) from (unmarked (with_mark row i) (suc from) n) (unmarked row (suc from) n) h))
    (cases_eq i from)

pub all_unmarked : (n from m : ℕ) → length (unmarked (zeros m) from n) ≡ n
all_unmarked zero from m = refl
all_unmarked (suc n) from m = let f = mark_laws.none m from in rw f (ap suc (all_unmarked n (suc from) m))

pub sum_unmarked : (count : ℕ) (xs : List Link) (row : List ℕ) → room_of count ≤ length row → ((j : ℕ) → In j (slots_of xs) → (0 < j) × (j < count)) → Distinct (slots_of xs) →
    ((j : ℕ) → In j (slots_of xs) → is_marked row j ≡ false) → length (unmarked (marked_all row xs) 1 (count - 1)) + length xs ≡ length (unmarked row 1 (count - 1))
sum_unmarked count [] row r f d e = omega arith
sum_unmarked count (x ∷ xs) row r f d e =
    let w : List ℕ = with_mark row x.slot in
    let long : room_of count ≤ length w = subst (λ (k : ℕ). room_of count ≤ k) (sym (mark_laws.long row x.slot)) r in
    let h = sum_unmarked count xs w long (λ j m. f j (inr m)) d.1
    (λ j m. mark_laws.other row x.slot j (λ q. d.0 (subst (λ (k : ℕ). In k (slots_of xs)) q m)) ∙ e j (inr m)) in
    let p = f x.slot (inl refl) in
    let l = less_unmarked (count - 1) 1 count x.slot row r p.1 (omega (arith, p.0)) (omega (arith, p.0, p.1)) (e x.slot (inl refl)) in
    omega arith

pub free_count_is : FreeCount
free_count_is m count xs r f d = grind (arith, length-replicate, sum_unmarked, mark_laws, all_unmarked)
