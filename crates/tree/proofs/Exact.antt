-- Which numbers the cover reaches, and its order.
use Rattle.std.proofs.Common.{◌≡◌, ℕ, zero, suc, ◌+◌, ◌-◌, ◌^◌, ◌<◌, ◌≤◌, List, [], ◌∷◌, ◌++◌, sym, refl, ◌∙◌, inl, inr, arith}
use Rattle.std.proofs.lemmas.Bool.{cases_lt}
use Rattle.tree.specs.declared.Node.{Node}
use Rattle.tree.specs.Nodes.{node_at, Covers}
use Rattle.tree.specs.Cover.{In, below, above, cover_at, cover, Ordered, InOrder, Reached, Exactly, AtMostOne, Exhausted}
use Rattle.tree.proofs.Members.{depth, first, wid, in_left, in_right, in_cases, of_below, of_above, Within, within_below, within_above, within_root, range}
use Rattle.tree.proofs.Choice.{to}
use Rattle.tree.proofs.Places.{cover_free, cover_under}

-- every number that is not spent is reached
reach : (d e h p : ℕ) (ns : List ℕ) (n : ℕ) → e + h ≡ d → Within h p ns → p ≤ n → n < p + 2 ^ h → (In n ns → ⊥) → Reached d (cover_at e h p ns) n
reach d e h p [] n q w a b f = let v = wid d e h q in (node_at e p, inl refl, (a, omega arith))
reach d e zero p (k ∷ ks) n q w a b f = let v = w k (inl refl) in absurd (f (inl (omega arith)))
reach d e (suc h) p (k ∷ ks) n q w a b f =
    let m = p + 2 ^ h in
    let ls = cover_at (suc e) h p (below m (k ∷ ks)) in
    let rs = cover_at (suc e) h m (above m (k ∷ ks)) in
    elim (cases_lt n m) [
      | inl l ↦
          let t = reach d (suc e) h p (below m (k ∷ ks)) n (omega arith) (within_below h p (k ∷ ks) w) a l (λ i. f (of_below m n (k ∷ ks) i).0) in
          (t.0, in_left t.0 ls rs t.1, t.2)
      | inr l ↦
          let t = reach d (suc e) h m (above m (k ∷ ks)) n (omega arith) (within_above h p (k ∷ ks) w) l (omega arith) (λ i. f (of_above m n (k ∷ ks) i).0) in
          (t.0, in_right t.0 ls rs t.1, t.2)
    ]

pub exactly : Exactly
exactly d spent n l = (
  λ t i. cover_free d spent t.0 t.1 n i t.2,
  λ f. reach d 0 d 0 (below (2 ^ d) spent) n (omega arith) (within_root d spent) (omega arith) (omega arith) (λ i. f (of_below (2 ^ d) n spent i).0),
)

-- the order
ordered_append : (d m : ℕ) (xs ys : List Node) → Ordered d xs → Ordered d ys →
    ((x : Node) → In x xs → first x + 2 ^ (d - depth x) ≤ m) → ((y : Node) → In y ys → m ≤ first y) → Ordered d (xs ++ ys)
ordered_append d m [] ys o r f g = r
ordered_append d m (x ∷ xs) ys o r f g = (
  λ y i. elim (in_cases y xs ys i) [ inl a ↦ o.0 y a | inr b ↦ let s = f x (inl refl) in let t = g y b in omega arith ],
  ordered_append d m xs ys o.1 r (λ z i. f z (inr i)) g,
)

pub ordered : (d e h p : ℕ) (ns : List ℕ) → e + h ≡ d → Within h p ns → Ordered d (cover_at e h p ns)
ordered d e h p [] q w = (λ y i. absurd i, tt)
ordered d e zero p (k ∷ ks) q w = tt
ordered d e (suc h) p (k ∷ ks) q w =
    let m = p + 2 ^ h in
    let ls = cover_at (suc e) h p (below m (k ∷ ks)) in
    let rs = cover_at (suc e) h m (above m (k ∷ ks)) in
    let s : suc e + h ≡ d = omega arith in
    let wl = within_below h p (k ∷ ks) w in
    let wr = within_above h p (k ∷ ks) w in
    ordered_append d m ls rs (ordered d (suc e) h p (below m (k ∷ ks)) s wl) (ordered d (suc e) h m (above m (k ∷ ks)) s wr)
    (λ x i. (range d (suc e) h p x s (to d (suc e) h p (below m (k ∷ ks)) x s wl i).under).high)
    (λ x i. (range d (suc e) h m x s (to d (suc e) h m (above m (k ∷ ks)) x s wr i).under).low)

pub in_order : InOrder
in_order d spent = ordered d 0 d 0 (below (2 ^ d) spent) (omega arith) (within_root d spent)

one_only : (d n : ℕ) (xs : List Node) (x y : Node) → Ordered d xs → In x xs → In y xs → Covers d x n → Covers d y n → x ≡ y
one_only d n [] x y o i j a b = absurd i
one_only d n (z ∷ zs) x y o (inl i) (inl j) a b = i ∙ sym j
one_only d n (z ∷ zs) x y o (inl i) (inr j) a b =
    let k = o.0 y j in
    let c : Covers d z n = rw i at a in
    absurd (omega arith)
one_only d n (z ∷ zs) x y o (inr i) (inl j) a b =
    let k = o.0 x i in
    let c : Covers d z n = rw j at b in
    absurd (omega arith)
one_only d n (z ∷ zs) x y o (inr i) (inr j) a b = one_only d n zs x y o.1 i j a b

pub at_most_one : AtMostOne
at_most_one d spent n x y i j a b = one_only d n (cover d spent) x y (in_order d spent) i j a b

none_in : {A : Type 0} (xs : List A) → ((x : A) → In x xs → ⊥) → xs ≡ []
none_in [] f = refl
none_in (x ∷ xs) f = absurd (f x (inl refl))

pub exhausted : Exhausted
exhausted d spent f =
    none_in (cover d spent) (λ x i.
    let u = cover_under d spent x i in
    let r = range d 0 d 0 x (omega arith) u in
    cover_free d spent x i (first x) (f (first x) (omega arith)) (omega arith, omega arith))
