-- Slots without a mark: the first of them, and how they rise.
use Rattle.std.proofs.Common.{◌≡◌, ℕ, zero, suc, ◌+◌, ◌-◌, ◌<◌, ◌≤◌, Bool, true, false, List, [], ◌∷◌, length, get_or, drop, Some, None, Option, refl, ap, ◌⊎◌, inl, inr, ⊎_elim, arith}
use Rattle.std.proofs.lemmas.Bool.{cases_Bool}
use Rattle.tree.specs.Cover.{In, Distinct}
use Rattle.marks.specs.Rows.{is_marked, listed, unmarked, first_of}
use Rattle.chain.proofs.Frees.{of_unmarked}
use Rattle.puncture.specs.Laying.{backward}

-- ---- the first
pub record First (row : List ℕ) (i n f : ℕ) : Type 0 where
  pub low : i ≤ f
  pub high : f < i + n
  pub rest : unmarked row i n ≡ f ∷ unmarked row (f + 1) (i + n - (f + 1))

first_here : (row : List ℕ) (i n f : ℕ) → first_of (i ∷ unmarked row (suc i) n) ≡ Some f → is_marked row i ≡ false → First row i (suc n) f
first_here row i n f e t =
    let q : i ≡ f = cc in
    let a : f + 1 ≡ suc i = omega arith in
    let b : i + suc n - suc i ≡ n = omega arith in
    record { low = omega arith; high = omega arith; rest = rw (t, a, b) (ap (λ (k : ℕ). k ∷ unmarked row (suc i) n) q) }

first_later : (row : List ℕ) (i n f : ℕ) → First row (suc i) n f → is_marked row i ≡ true → First row i (suc n) f
first_later row i n f r t =
    let b : i + suc n - (f + 1) ≡ suc i + n - (f + 1) = omega arith in
    record { low = omega (arith, r.low); high = omega (arith, r.high); rest = rw (t, b) r.rest }

pub first_is : (row : List ℕ) (i n f : ℕ) → first_of (unmarked row i n) ≡ Some f → First row i n f
first_is row i zero f e = absurd (cc)
first_is row i (suc n) f e = ⊎_elim
    (λ (t : is_marked row i ≡ true). first_later row i n f (first_is row (suc i) n f (rw t at e)) t)
    (λ (t : is_marked row i ≡ false). first_here row i n f (rw t at e) t)
    (cases_Bool (is_marked row i))

some_below : (o : Option ℕ) (e : ℕ) → ((f : ℕ) → o ≡ Some f → f < e) → (o ≡ None) ⊎ ((f : ℕ) × (o ≡ Some f) × (f < e))
some_below None e h = inl refl
some_below (Some f) e h = inr (f, refl, h f refl)

pub first_below : (row : List ℕ) (i n : ℕ) → (first_of (unmarked row i n) ≡ None) ⊎ ((f : ℕ) × (first_of (unmarked row i n) ≡ Some f) × (f < i + n))
first_below row i n = some_below (first_of (unmarked row i n)) (i + n) (λ f e. (first_is row i n f e).high)

first_none : (us : List ℕ) → first_of us ≡ None → us ≡ []
first_none [] e = refl
first_none (u ∷ us) e = absurd (cc)

pub none_left : (us vs : List ℕ) (n : ℕ) → first_of us ≡ None → us ≡ drop n vs → n < length vs → ⊥
none_left us [] n e q l = omega arith
none_left us (v ∷ vs) zero e q l = cc (first_none us e)
none_left us (v ∷ vs) (suc n) e q l = none_left us vs n e q (omega arith)

-- the head and the tail of what is left of a list
pub left_over : (us vs : List ℕ) (n f : ℕ) → drop n us ≡ f ∷ vs → (get_or us n 0 ≡ f) × (drop (suc n) us ≡ vs)
left_over [] vs zero f e = absurd (cc)
left_over [] vs (suc n) f e = absurd (cc)
left_over (u ∷ us) vs zero f e = (cc, cc)
left_over (u ∷ us) vs (suc n) f e = left_over us vs n f e

-- ---- they rise
pub in_at : {A : Type 0} (us : List A) (d : A) (j : ℕ) → j < length us → In (get_or us j d) us
in_at [] d j l = absurd (omega arith)
in_at (u ∷ us) d zero l = inl refl
in_at (u ∷ us) d (suc j) l = inr (in_at us d j (omega arith))

rise_listed : (b : Bool) (row : List ℕ) (i n j : ℕ) → (suc j < length (unmarked row (suc i) n) → get_or (unmarked row (suc i) n) j 0 < get_or (unmarked row (suc i) n) (suc j) 0) →
    ((k : ℕ) → suc k < length (unmarked row (suc i) n) → get_or (unmarked row (suc i) n) k 0 < get_or (unmarked row (suc i) n) (suc k) 0) →
    suc j < length (listed b i (unmarked row (suc i) n)) → get_or (listed b i (unmarked row (suc i) n)) j 0 < get_or (listed b i (unmarked row (suc i) n)) (suc j) 0
rise_listed true row i n j f g l = f l
rise_listed false row i n zero f g l =
    let w = of_unmarked n row (suc i) (get_or (unmarked row (suc i) n) 0 0) (in_at (unmarked row (suc i) n) 0 0 (omega arith)) in omega (arith, w.0)
rise_listed false row i n (suc j) f g l = g j (omega arith)

pub rises : (row : List ℕ) (i n j : ℕ) → suc j < length (unmarked row i n) → get_or (unmarked row i n) j 0 < get_or (unmarked row i n) (suc j) 0
rises row i zero j l = absurd (omega arith)
rises row i (suc n) j l = rise_listed (is_marked row i) row i n j (rises row (suc i) n j) (rises row (suc i) n) l

module _ (us : List ℕ) (up : (j : ℕ) → suc j < length us → get_or us j 0 < get_or us (suc j) 0) where
  below_next : (n f : ℕ) → n < length us → In f (backward us n) → f < get_or us n 0
  below_next zero f l m = absurd m
  below_next (suc n) f l (inl q) = omega (arith, up n l)
  below_next (suc n) f l (inr m) = omega (arith, up n l, below_next n f (omega arith) m)

  pub backward_apart : (n : ℕ) → n ≤ length us → Distinct (backward us n)
  backward_apart zero l = tt
  backward_apart (suc n) l = (λ m. omega (arith, below_next n (get_or us n 0) (omega arith) m), backward_apart n (omega arith))

pub backward_in : (us : List ℕ) (n f : ℕ) → n ≤ length us → In f (backward us n) → In f us
backward_in us zero f l m = absurd m
backward_in us (suc n) f l (inl q) = rw q (in_at us 0 n (omega arith))
backward_in us (suc n) f l (inr m) = backward_in us n f (omega arith) m

pub length_backward : (us : List ℕ) (n : ℕ) → length (backward us n) ≡ n
length_backward us zero = refl
length_backward us (suc n) = ap suc (length_backward us n)
