-- Membership in lists, the spent numbers under a node, and the nodes under a node by the way down.
use Rattle.std.proofs.Common.{◌≡◌, ℕ, zero, suc, ◌+◌, ◌-◌, ◌^◌, ◌<◌, ◌≤◌, Bool, true, ltb, leb, ◌⊎◌, List, [], ◌∷◌, ◌++◌, filter, sym, refl, ap, ◌∙◌, subst, inl, inr, arith, pow_pos, ltb-true, lt-ltb, le-leb, leb-true}
use Rattle.std.proofs.lemmas.Bool.{cases_Bool}
use Rattle.tree.specs.declared.Node.{Node}
use Rattle.tree.specs.Nodes.{node_at}
use Rattle.tree.specs.Cover.{In, below, above}

-- a node's two fields as functions
abbrev pub depth : Node → ℕ
depth x = x.depth

abbrev pub first : Node → ℕ
first x = x.first

pub wid : (d e h : ℕ) → e + h ≡ d → 2 ^ (d - e) ≡ 2 ^ h
wid d e h q = grind arith

-- ---- membership
pub in_left : {A : Type 0} (x : A) (s t : List A) → In x s → In x (s ++ t)
in_left x (y ∷ s) t (inl q) = inl q
in_left x (y ∷ s) t (inr m) = inr (in_left x s t m)
in_left x [] t m = absurd m

pub in_right : {A : Type 0} (x : A) (s t : List A) → In x t → In x (s ++ t)
in_right x [] t m = m
in_right x (y ∷ s) t m = inr (in_right x s t m)

pub in_cases : {A : Type 0} (x : A) (s t : List A) → In x (s ++ t) → In x s ⊎ In x t
in_cases x [] t m = inr m
in_cases x (y ∷ s) t (inl q) = inl (inl q)
in_cases x (y ∷ s) t (inr m) = elim (in_cases x s t m) [ inl a ↦ inl (inr a) | inr b ↦ inr b ]

pub in_filter : {A : Type 0} (p : A → Bool) (x : A) (xs : List A) → In x xs → p x ≡ true → In x (filter p xs)
in_filter p x (y ∷ ys) (inl q) e = grind arith
in_filter p x (y ∷ ys) (inr i) e = elim (cases_Bool (p y)) [ inl h ↦ rw h (inr (in_filter p x ys i e)) | inr h ↦ rw h (in_filter p x ys i e) ]
in_filter p x [] i e = absurd i

pub of_filter : {A : Type 0} (p : A → Bool) (x : A) (xs : List A) → In x (filter p xs) → In x xs × (p x ≡ true)
of_filter p x (y ∷ ys) i =
    elim (cases_Bool (p y)) [
      | inl h ↦ elim (let j : In x (y ∷ filter p ys) = rw h at i in j) [ inl q ↦ (inl q, ap p q ∙ h) | inr j ↦ (inr (of_filter p x ys j).0, (of_filter p x ys j).1) ]
      | inr h ↦ let j : In x (filter p ys) = rw h at i in (inr (of_filter p x ys j).0, (of_filter p x ys j).1)
    ]
of_filter p x [] i = absurd i

pub in_below : (m k : ℕ) (ns : List ℕ) → In k ns → k < m → In k (below m ns)
in_below m k ns i h = in_filter (λ n. ltb n m) k ns i (lt-ltb k m h)

pub in_above : (m k : ℕ) (ns : List ℕ) → In k ns → m ≤ k → In k (above m ns)
in_above m k ns i h = in_filter (leb m) k ns i (le-leb m k h)

pub of_below : (m k : ℕ) (ns : List ℕ) → In k (below m ns) → In k ns × (k < m)
of_below m k ns i = grind (arith, of_filter, ltb-true)

pub of_above : (m k : ℕ) (ns : List ℕ) → In k (above m ns) → In k ns × (m ≤ k)
of_above m k ns i = grind (arith, of_filter, leb-true)

-- ---- all the numbers of the list are under the node of height h that begins at p
abbrev pub Within : ℕ → ℕ → List ℕ → Type 0
Within h p ns = (n : ℕ) → In n ns → (p ≤ n) × (n < p + 2 ^ h)

pub within_below : (h p : ℕ) (ns : List ℕ) → Within (suc h) p ns → Within h p (below (p + 2 ^ h) ns)
within_below h p ns w n i = grind (arith, of_below)

pub within_above : (h p : ℕ) (ns : List ℕ) → Within (suc h) p ns → Within h (p + 2 ^ h) (above (p + 2 ^ h) ns)
within_above h p ns w n i = grind (arith, of_above)

pub within_root : (d : ℕ) (ns : List ℕ) → Within d 0 (below (2 ^ d) ns)
within_root d ns n i = grind (arith, of_below)

-- ---- the nodes under (e, p), down h levels
abbrev pub Under : ℕ → ℕ → ℕ → Node → Type 0
Under e zero p x = x ≡ node_at e p
Under e (suc h) p x = (x ≡ node_at e p) ⊎ (Under (suc e) h p x ⊎ Under (suc e) h (p + 2 ^ h) x)

pub under_self : (e h p : ℕ) → Under e h p (node_at e p)
under_self e zero p = refl
under_self e (suc h) p = inl refl

pub record Range (d e h p : ℕ) (x : Node) : Type 0 where
  pub low : p ≤ first x
  pub high : first x + 2 ^ (d - depth x) ≤ p + 2 ^ h
  pub deep : e ≤ depth x
  pub shallow : depth x ≤ d
  pub wide : 0 < 2 ^ (d - depth x)

range_self : (d e h p : ℕ) (x : Node) → e + h ≡ d → x ≡ node_at e p → Range d e h p x
range_self d e h p x q r =
    subst (λ (y : Node). Range d e h p y) (sym r)
    (record { low = omega arith; high = let w = wid d e h q in omega arith; deep = omega arith; shallow = omega arith; wide = pow_pos (d - e) })

pub range : (d e h p : ℕ) (x : Node) → e + h ≡ d → Under e h p x → Range d e h p x
range d e zero p x q u = range_self d e zero p x q u
range d e (suc h) p x q (inl u) = range_self d e (suc h) p x q u
range d e (suc h) p x q (inr (inl u)) =
    let r = range d (suc e) h p x (omega arith) u in
    record { low = r.low; high = omega arith; deep = omega arith; shallow = r.shallow; wide = r.wide }
range d e (suc h) p x q (inr (inr u)) =
    let r = range d (suc e) h (p + 2 ^ h) x (omega arith) u in
    record { low = omega arith; high = omega arith; deep = omega arith; shallow = r.shallow; wide = r.wide }
