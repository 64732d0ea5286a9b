-- Which nodes the computed siblings are.
use Rattle.std.proofs.Common.{◌≡◌, ℕ, zero, suc, ◌+◌, ◌-◌, ◌^◌, ◌≤◌, Bool, true, false, ltb, List, [], ◌∷◌, length, sym, refl, ap, ◌∙◌, subst, inl, inr, arith, length-append}
use Rattle.tree.specs.declared.Node.{Node}
use Rattle.tree.specs.Nodes.{node_at, IsNode, Child, Covers}
use Rattle.tree.specs.Cover.{In, Ordered}
use Rattle.tree.specs.Puncture.{turn, flank, siblings_on, Beside, SiblingsAre}
use Rattle.tree.proofs.Members.{depth, first, wid, Within, Under, range, under_self}
use Rattle.tree.proofs.Choice.{to, from, node_eq}
use Rattle.tree.proofs.Places.{node_of_under, under_of_node}
use Rattle.tree.proofs.Exact.{ordered}
use Rattle.tree.proofs.Replacement.{cover_one}

-- under x
abbrev pub Below : ℕ → Node → Node → Type 0
Below d x y = Under (depth x) (d - depth x) (first x) y

below_self : (d e h p : ℕ) (x y : Node) → e + h ≡ d → x ≡ node_at e p → Below d x y → Under e h p y
below_self d e h p x y q i u = grind arith

self_below : (d e h p : ℕ) (x y : Node) → e + h ≡ d → x ≡ node_at e p → Under e h p y → Below d x y
self_below d e h p x y q i u = grind arith

pub below_trans : (d e h p : ℕ) (x y : Node) → e + h ≡ d → Under e h p x → Below d x y → Under e h p y
below_trans d e zero p x y q i u = below_self d e zero p x y q i u
below_trans d e (suc h) p x y q (inl i) u = below_self d e (suc h) p x y q i u
below_trans d e (suc h) p x y q (inr (inl i)) u = inr (inl (below_trans d (suc e) h p x y (omega arith) i u))
below_trans d e (suc h) p x y q (inr (inr i)) u = inr (inr (below_trans d (suc e) h (p + 2 ^ h) x y (omega arith) i u))

-- two nodes that cover one number: the deeper is under the other
pub nested : (d e h p n : ℕ) (x z : Node) → e + h ≡ d → Under e h p x → Under e h p z → depth x ≤ depth z → Covers d x n → Covers d z n → Below d x z
nested d e zero p n x z q i j l a b = self_below d e zero p x z q i j
nested d e (suc h) p n x z q (inl i) j l a b = self_below d e (suc h) p x z q i j
nested d e (suc h) p n x z q (inr (inl i)) (inl j) l a b = let r = range d (suc e) h p x (omega arith) i in absurd (omega (arith, ap depth j))
nested d e (suc h) p n x z q (inr (inr i)) (inl j) l a b = let r = range d (suc e) h (p + 2 ^ h) x (omega arith) i in absurd (omega (arith, ap depth j))
nested d e (suc h) p n x z q (inr (inl i)) (inr (inl j)) l a b = nested d (suc e) h p n x z (omega arith) i j l a b
nested d e (suc h) p n x z q (inr (inr i)) (inr (inr j)) l a b = nested d (suc e) h (p + 2 ^ h) n x z (omega arith) i j l a b
nested d e (suc h) p n x z q (inr (inl i)) (inr (inr j)) l a b =
    let r = range d (suc e) h p x (omega arith) i in
    let s = range d (suc e) h (p + 2 ^ h) z (omega arith) j in
    absurd (omega arith)
nested d e (suc h) p n x z q (inr (inr i)) (inr (inl j)) l a b =
    let r = range d (suc e) h (p + 2 ^ h) x (omega arith) i in
    let s = range d (suc e) h p z (omega arith) j in
    absurd (omega arith)

pub child_under : (d e h p : ℕ) (z y : Node) → e + h ≡ d → Under e h p z → Child d z y → depth y ≤ d → Under e h p y
child_under d e zero p z y q i c l = absurd (omega (arith, ap depth i))
child_under d e (suc h) p z y q (inl i) (a, inl b) l = grind (arith, node_eq, under_self)
child_under d e (suc h) p z y q (inl i) (a, inr b) l = grind (arith, wid, node_eq, under_self)
child_under d e (suc h) p z y q (inr (inl i)) c l = inr (inl (child_under d (suc e) h p z y (omega arith) i c l))
child_under d e (suc h) p z y q (inr (inr i)) c l = inr (inr (child_under d (suc e) h (p + 2 ^ h) z y (omega arith) i c l))

length_flank : (b : Bool) (e p m : ℕ) (xs : List Node) → length (flank b e p m xs) ≡ suc (length xs)
length_flank true e p m xs = rw length-append (omega arith)
length_flank false e p m xs = refl

pub length_siblings : (e h p n : ℕ) → length (siblings_on e h p n) ≡ h
length_siblings e zero p n = refl
length_siblings e (suc h) p n =
    let m = p + 2 ^ h in
    let b = ltb n m in
    length_flank b (suc e) p m (siblings_on (suc e) h (turn b p m) n) ∙ ap suc (length_siblings (suc e) h (turn b p m) n)

pub within_one : (d n : ℕ) (x : Node) → Covers d x n → Within (d - depth x) (first x) (n ∷ [])
within_one d n x c k (inl q) = (omega arith, omega arith)
within_one d n x c k (inr i) = absurd i

into : (d n : ℕ) (x y : Node) → IsNode d x → Covers d x n → In y (siblings_on (depth x) (d - depth x) (first x) n) → Beside d x n y
into d n x y o v i =
    let e = depth x in
    let h = d - depth x in
    let p = first x in
    let q : e + h ≡ d = omega (arith, o.shallow) in
    let c = to d e h p (n ∷ []) y q (within_one d n x v) (subst (λ (l : List Node). In y l) (sym (cover_one e h p n)) i) in
    let f : Covers d y n → ⊥ = c.free n (inl refl) in
    elim c.picked [
      | inl s ↦ absurd (f (subst (λ (z : Node). Covers d z n) (sym (s ∙ sym (node_eq x e p refl refl))) v))
      | inr t ↦
          let r = range d e h p t.0 q t.1 in
          record {
            apart = f;
            parent = t.0;
            is_node = node_of_under d t.0 (below_trans d 0 d 0 x t.0 (omega arith) (under_of_node d x o) t.1);
            child = t.2;
            inside = r.deep;
            on_way = at t.0 t.3.0 t.3.1 t.3.2;
          }
    ]
  where
    at : (z : Node) (k : ℕ) → In k (n ∷ []) → Covers d z k → Covers d z n
    at z k (inl s) g = subst (λ (j : ℕ). Covers d z j) s g
    at z k (inr s) g = absurd s

outof : (d n : ℕ) (x y : Node) → IsNode d x → Covers d x n → IsNode d y → Beside d x n y → In y (siblings_on (depth x) (d - depth x) (first x) n)
outof d n x y o v k b =
    let e = depth x in
    let h = d - depth x in
    let p = first x in
    let q : e + h ≡ d = omega (arith, o.shallow) in
    let z = b.parent in
    let uz : Below d x z = nested d 0 d 0 n x z (omega arith) (under_of_node d x o) (under_of_node d z b.is_node) b.inside v b.on_way in
    let uy : Below d x y = child_under d e h p z y q uz b.child k.shallow in
    subst (λ (l : List Node). In y l) (cover_one e h p n)
    (from d e h p (n ∷ []) y q (within_one d n x v) uy (free y b.apart) (inr (z, uz, b.child, (n, inl refl, b.on_way))))
  where
    free : (w : Node) → (Covers d w n → ⊥) → (j : ℕ) → In j (n ∷ []) → Covers d w j → ⊥
    free w f j (inl s) g = f (subst (λ (i : ℕ). Covers d w i) s g)
    free w f j (inr s) g = s

pub siblings_are : SiblingsAre
siblings_are d n x o v =
    record {
      count = length_siblings (depth x) (d - depth x) (first x) n;
      order = subst (λ (l : List Node). Ordered d l) (cover_one (depth x) (d - depth x) (first x) n) (ordered d (depth x) (d - depth x) (first x) (n ∷ []) (omega (arith, o.shallow)) (within_one d n x v));
      members = λ y k. (λ i. into d n x y o v i, λ b. outof d n x y o v k b);
    }
