-- How many nodes a cover has, and that only the set of spent numbers counts.
use Rattle.std.proofs.Common.{◌≡◌, ℕ, zero, suc, ◌+◌, ◌-◌, ◌*◌, ◌^◌, ◌<◌, ◌≤◌, Bool, ltb, leb, ◌↔◌, List, [], ◌∷◌, ◌++◌, length, filter, refl, subst, ap₂, inl, inr, mul-le-mul_left, arith, length-append, pow_pos, lt-ltb, le-leb}
use Rattle.std.proofs.lemmas.Bool.{cases_Bool, cases_lt, le-ltb, lt-leb}
use Rattle.std.proofs.lemmas.List.Filters.{length-filter_both}
use Rattle.tree.specs.declared.Node.{Node}
use Rattle.tree.specs.Cover.{In, below, above, cover_at, Distinct, Few, SameSet}
use Rattle.tree.proofs.Members.{of_filter, in_filter, Within, within_below, within_above}

distinct : (p : ℕ → Bool) (ns : List ℕ) → Distinct ns → Distinct (filter p ns)
distinct p [] s = tt
distinct p (n ∷ ns) s = elim (cases_Bool (p n)) [ inl h ↦ rw h (λ i. s.0 (of_filter p n ns i).0, distinct p ns s.1) | inr h ↦ rw h (distinct p ns s.1) ]

pub halves : {A : Type 0} (f : A → ℕ) (m : ℕ) (xs : List A) → length (filter (λ x. ltb (f x) m) xs) + length (filter (λ x. leb m (f x)) xs) ≡ length xs
halves f m xs = length-filter_both (λ x. ltb (f x) m) (λ x. leb m (f x)) (λ x. elim (cases_lt (f x) m) [ inl l ↦ rw (lt-ltb (f x) m l, lt-leb m (f x) l) | inr l ↦ rw (le-ltb (f x) m l, le-leb m (f x) l) ]) xs

-- with k numbers spent of the tree of height h the cover has c nodes: one law for each f
abbrev Bound : ℕ → ℕ → ℕ → Type 0
Bound h k c = (f : ℕ) → c + k * (f + 2) ≤ k * h + 2 ^ suc f

two_pow : (f : ℕ) → f + 2 ≤ 2 ^ suc f
two_pow zero = omega arith
two_pow (suc f) = let r = two_pow f in omega arith

-- both halves struck
both : (h a b x y : ℕ) → 1 ≤ a → 1 ≤ b → Bound h a x → Bound h b y → Bound (suc h) (a + b) (x + y)
both h a b x y s t u v zero = let i = u 0 in let j = v 0 in omega arith
both h a b x y s t u v (suc f) = grind arith

-- one half struck
single : (h a x : ℕ) → 1 ≤ a → Bound h a x → Bound (suc h) a (x + 1)
single h a x s u f = grind arith

joined : (e h p m : ℕ) (ks js : List ℕ) → 1 ≤ length ks + length js →
    (1 ≤ length ks → Bound h (length ks) (length (cover_at e h p ks))) → (1 ≤ length js → Bound h (length js) (length (cover_at e h m js))) →
    Bound (suc h) (length ks + length js) (length (cover_at e h p ks ++ cover_at e h m js))
joined e h p m [] [] l u v = absurd (omega arith)
joined e h p m [] (j ∷ js) l u v = grind (arith, single, length-append)
joined e h p m (k ∷ ks) [] l u v = grind (arith, single, length-append)
joined e h p m (k ∷ ks) (j ∷ js) l u v =
    let r = both h (suc (length ks)) (suc (length js)) (length (cover_at e h p (k ∷ ks))) (length (cover_at e h m (j ∷ js))) (omega arith) (omega arith) (u (omega arith)) (v (omega arith)) in
    λ f. rw length-append (r f)

alone : (p : ℕ) (ns : List ℕ) → Within 0 p ns → Distinct ns → length ns ≤ 1
alone p [] w s = omega arith
alone p (k ∷ []) w s = omega arith
alone p (k ∷ (j ∷ ns)) w s = grind arith

bounded : (e h p : ℕ) (ns : List ℕ) → Within h p ns → Distinct ns → 1 ≤ length ns → Bound h (length ns) (length (cover_at e h p ns))
bounded e h p [] w s l = absurd (omega arith)
bounded e zero p (k ∷ ks) w s l =
    let a = alone p (k ∷ ks) w s in
    let o : length ks ≡ 0 = omega arith in
    λ f. let t = two_pow f in rw o (omega arith)
bounded e (suc h) p (k ∷ ks) w s l =
    let m = p + 2 ^ h in
    let ns = k ∷ ks in
    let c = halves (λ n. n) m ns in
    subst (λ (z : ℕ). Bound (suc h) z (length (cover_at e (suc h) p (k ∷ ks)))) c
    (joined (suc e) h p m (below m (k ∷ ks)) (above m (k ∷ ks)) (omega arith)
    (bounded (suc e) h p (below m (k ∷ ks)) (within_below h p (k ∷ ks) w) (distinct (λ n. ltb n m) (k ∷ ks) s))
    (bounded (suc e) h m (above m (k ∷ ks)) (within_above h p (k ∷ ks) w) (distinct (leb m) (k ∷ ks) s)))

all_below : (m : ℕ) (ns : List ℕ) → ((n : ℕ) → In n ns → n < m) → below m ns ≡ ns
all_below m [] f = refl
all_below m (n ∷ ns) f = rw (lt-ltb n m (f n (inl refl)), all_below m ns (λ k i. f k (inr i)))

-- c + k f ≤ k d
finish : (c k d f : ℕ) → 1 ≤ k → c + k * f ≤ k * d → c ≤ k * (d - f)
finish c k d f l b =
    elim (cases_lt d f) [
      | inl s ↦ let j = mul-le-mul_left k s in absurd (omega arith)
      | inr s ↦ let i = d - f in let g : d ≡ f + i = omega arith in let b2 : c + k * f ≤ k * (f + i) = rw g at b in omega arith
    ]

pub few : Few
few d f spent s w l =
    let a = all_below (2 ^ d) spent w in
    let o : 1 ≤ length spent = let z = pow_pos f in omega arith in
    let b = bounded 0 d 0 spent (λ n i. (omega arith, let z = w n i in omega arith)) s o f in
    rw a (finish (length (cover_at 0 d 0 spent)) (length spent) d f o (omega arith))

-- ---- the order of the spent numbers, and how often one stands, does not matter
abbrev Same : List ℕ → List ℕ → Type 0
Same ms ns = (n : ℕ) → In n ms ↔ In n ns

same_filter : (p : ℕ → Bool) (ms ns : List ℕ) → Same ms ns → Same (filter p ms) (filter p ns)
same_filter p ms ns s n = (
  λ i. let a = of_filter p n ms i in in_filter p n ns ((s n).0 a.0) a.1,
  λ i. let a = of_filter p n ns i in in_filter p n ms ((s n).1 a.0) a.1,
)

same_at : (e h p : ℕ) (ms ns : List ℕ) → Same ms ns → cover_at e h p ms ≡ cover_at e h p ns
same_at e h p [] [] s = refl
same_at e h p [] (n ∷ ns) s = absurd ((s n).1 (inl refl))
same_at e h p (m ∷ ms) [] s = absurd ((s m).0 (inl refl))
same_at e zero p (m ∷ ms) (n ∷ ns) s = refl
same_at e (suc h) p (m ∷ ms) (n ∷ ns) s =
    let b = p + 2 ^ h in
    ap₂ (λ (xs ys : List Node). xs ++ ys)
    (same_at (suc e) h p (below b (m ∷ ms)) (below b (n ∷ ns)) (same_filter (λ k. ltb k b) (m ∷ ms) (n ∷ ns) s))
    (same_at (suc e) h b (above b (m ∷ ms)) (above b (n ∷ ns)) (same_filter (leb b) (m ∷ ms) (n ∷ ns) s))

pub same_set : SameSet
same_set d ms ns s = same_at 0 d 0 (below (2 ^ d) ms) (below (2 ^ d) ns) (same_filter (λ k. ltb k (2 ^ d)) ms ns s)
