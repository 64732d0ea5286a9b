-- Which nodes the computed cover holds, by the way down.
use Rattle.std.proofs.Common.{◌≡◌, ℕ, zero, suc, ◌+◌, ◌-◌, ◌^◌, ◌<◌, ◌≤◌, ◌⊎◌, List, [], ◌∷◌, sym, refl, ap, ◌∙◌, subst, ap₂, inl, inr, arith}
use Rattle.tree.specs.declared.Node.{Node}
use Rattle.tree.specs.Nodes.{node_at, Covers, Child}
use Rattle.tree.specs.Cover.{In, Struck, Free, below, above, cover_at}
use Rattle.tree.proofs.Members.{depth, first, wid, in_left, in_right, in_cases, in_below, in_above, of_below, of_above, Within, within_below, within_above, Under, under_self, range}

abbrev pub PickedAt : ℕ → ℕ → ℕ → ℕ → List ℕ → Node → Type 0
PickedAt d e h p ns x = (x ≡ node_at e p) ⊎ ((y : Node) × Under e h p y × Child d y x × Struck d ns y)

pub record Chosen (d e h p : ℕ) (ns : List ℕ) (x : Node) : Type 0 where
  pub under : Under e h p x
  pub free : Free d ns x
  pub picked : PickedAt d e h p ns x

lone : (d e h p : ℕ) (x : Node) → x ≡ node_at e p → Chosen d e h p [] x
lone d e h p x q = grind (arith, under_self)

-- a number under (e, p) strikes it
pub strikes : (d e h p n : ℕ) (ns : List ℕ) → e + h ≡ d → Within h p (n ∷ ns) → Struck d (n ∷ ns) (node_at e p)
strikes d e h p n ns q w =
    let a = w n (inl refl) in
    let b = wid d e h q in
    (n, inl refl, (omega arith, omega arith))

-- one half of the node (e, p): it begins at s, and ks are the numbers under it of those listed
record Half (e h p s : ℕ) (ns ks : List ℕ) : Type 0 where
  begins : (s ≡ p) ⊎ (s ≡ p + 2 ^ h)
  under : (x : Node) → Under (suc e) h s x → Under e (suc h) p x
  inner : (d : ℕ) (y : Node) → e + suc h ≡ d → Under (suc e) h p y ⊎ Under (suc e) h (p + 2 ^ h) y → first y < s + 2 ^ h → s < first y + 2 ^ (d - depth y) → Under (suc e) h s y
  holds : (k : ℕ) → In k ns → s ≤ k → k < s + 2 ^ h → In k ks
  held : (k : ℕ) → In k ks → In k ns

left_half : (e h p : ℕ) (ns : List ℕ) → Half e h p p ns (below (p + 2 ^ h) ns)
left_half e h p ns =
    record {
      begins = inl refl;
      under = λ x u. inr (inl u);
      inner = λ d y q u l m. elim u [ inl v ↦ v | inr v ↦ let r = range d (suc e) h (p + 2 ^ h) y (omega arith) v in absurd (omega arith) ];
      holds = λ k i l m. in_below (p + 2 ^ h) k ns i m;
      held = λ k i. (of_below (p + 2 ^ h) k ns i).0;
    }

right_half : (e h p : ℕ) (ns : List ℕ) → Half e h p (p + 2 ^ h) ns (above (p + 2 ^ h) ns)
right_half e h p ns =
    record {
      begins = inr refl;
      under = λ x u. inr (inr u);
      inner = λ d y q u l m. elim u [ inl v ↦ let r = range d (suc e) h p y (omega arith) v in absurd (omega arith) | inr v ↦ v ];
      holds = λ k i l m. in_above (p + 2 ^ h) k ns i l;
      held = λ k i. (of_above (p + 2 ^ h) k ns i).0;
    }

from_half : (d e h p s n : ℕ) (ns ks : List ℕ) (x : Node) → e + suc h ≡ d → Within (suc h) p (n ∷ ns) → Half e h p s (n ∷ ns) ks →
    Chosen d (suc e) h s ks x → Chosen d e (suc h) p (n ∷ ns) x
from_half d e h p s n ns ks x q w a c =
    let r = range d (suc e) h s x (omega arith) c.under in
    let v = wid d (suc e) h (omega arith) in
    record {
      under = a.under x c.under;
      free = λ k i v. c.free k (a.holds k i (omega arith) (omega arith)) v;
      picked = elim c.picked [
        | inl z ↦
            let b : (first x ≡ p) ⊎ (first x ≡ p + 2 ^ (d - depth x)) = elim a.begins [ inl i ↦ inl (ap first z ∙ i) | inr i ↦ inr (rw z (i ∙ omega arith)) ] in
            inr (node_at e p, inl refl, (ap depth z, b), strikes d e (suc h) p n ns q w)
        | inr t ↦ inr (t.0, a.under t.0 t.1, t.2, (t.3.0, a.held t.3.0 t.3.1, t.3.2))
      ];
    }

pub to : (d e h p : ℕ) (ns : List ℕ) (x : Node) → e + h ≡ d → Within h p ns → In x (cover_at e h p ns) → Chosen d e h p ns x
to d e h p [] x q w (inl i) = lone d e h p x i
to d e h p [] x q w (inr i) = absurd i
to d e zero p (n ∷ ns) x q w i = absurd i
to d e (suc h) p (n ∷ ns) x q w i =
    let m = p + 2 ^ h in
    elim (in_cases x (cover_at (suc e) h p (below m (n ∷ ns))) (cover_at (suc e) h m (above m (n ∷ ns))) i) [
      | inl a ↦ from_half d e h p p n ns (below m (n ∷ ns)) x q w (left_half e h p (n ∷ ns)) (to d (suc e) h p (below m (n ∷ ns)) x (omega arith) (within_below h p (n ∷ ns) w) a)
      | inr b ↦ from_half d e h p m n ns (above m (n ∷ ns)) x q w (right_half e h p (n ∷ ns)) (to d (suc e) h m (above m (n ∷ ns)) x (omega arith) (within_above h p (n ∷ ns) w) b)
    ]

-- ---- and back
pub not_struck : (d e h p n : ℕ) (ns : List ℕ) (x : Node) → e + h ≡ d → Within h p (n ∷ ns) → x ≡ node_at e p → Free d (n ∷ ns) x → ⊥
not_struck d e h p n ns x q w s f =
    let t = strikes d e h p n ns q w in
    f t.0 t.1 (subst (λ (y : Node). Covers d y t.0) (sym s) t.2)

-- a child of y lies in y
child_in : (d : ℕ) (y x : Node) → depth y < d → Child d y x → (first y ≤ first x) × (first x + 2 ^ (d - depth x) ≤ first y + 2 ^ (d - depth y))
child_in d y x l c =
    let k : d - depth y ≡ suc (d - depth x) = omega arith in
    let w : 2 ^ (d - depth y) ≡ 2 ^ suc (d - depth x) = ap (λ (k : ℕ). 2 ^ k) k in
    (omega arith, omega arith)

pub node_eq : (x : Node) (e p : ℕ) → depth x ≡ e → first x ≡ p → x ≡ node_at e p
node_eq x e p q r = ap₂ node_at q r

down_half : (d e h p s n : ℕ) (ns ks : List ℕ) (x : Node) → e + suc h ≡ d → Half e h p s (n ∷ ns) ks → Under (suc e) h s x →
    PickedAt d e (suc h) p (n ∷ ns) x → PickedAt d (suc e) h s ks x
down_half d e h p s n ns ks x q a u (inl z) = let r = range d (suc e) h s x (omega arith) u in absurd (omega (arith, ap depth z))
down_half d e h p s n ns ks x q a u (inr (y, inl z, c, t)) =
    let r = range d (suc e) h s x (omega arith) u in
    let k = c.0 ∙ ap (λ z. suc (depth z)) z in
    let w = wid d (depth x) h (omega arith) in
    inl (node_eq x (suc e) s k (omega arith))
down_half d e h p s n ns ks x q a u (inr (y, inr v, c, t)) =
    let r = range d (suc e) h s x (omega arith) u in
    let k = child_in d y x (omega arith) c in
    let o = a.inner d y q v (omega arith) (omega arith) in
    let g = range d (suc e) h s y (omega arith) o in
    inr (y, o, c, (t.0, a.holds t.0 t.1 (omega arith) (omega arith), t.2))

pub from : (d e h p : ℕ) (ns : List ℕ) (x : Node) → e + h ≡ d → Within h p ns →
    Under e h p x → Free d ns x → PickedAt d e h p ns x → In x (cover_at e h p ns)
from d e h p [] x q w u f (inl k) = inl k
from d e h p [] x q w u f (inr k) = absurd k.3.1
from d e zero p (n ∷ ns) x q w u f k = absurd (not_struck d e zero p n ns x q w u f)
from d e (suc h) p (n ∷ ns) x q w (inl u) f k = absurd (not_struck d e (suc h) p n ns x q w u f)
from d e (suc h) p (n ∷ ns) x q w (inr (inl u)) f k =
    let m = p + 2 ^ h in
    in_left x (cover_at (suc e) h p (below m (n ∷ ns))) (cover_at (suc e) h m (above m (n ∷ ns)))
    (from d (suc e) h p (below m (n ∷ ns)) x (omega arith) (within_below h p (n ∷ ns) w) u
    (λ j i. f j (of_below m j (n ∷ ns) i).0) (down_half d e h p p n ns (below m (n ∷ ns)) x q (left_half e h p (n ∷ ns)) u k))
from d e (suc h) p (n ∷ ns) x q w (inr (inr u)) f k =
    let m = p + 2 ^ h in
    in_right x (cover_at (suc e) h p (below m (n ∷ ns))) (cover_at (suc e) h m (above m (n ∷ ns)))
    (from d (suc e) h m (above m (n ∷ ns)) x (omega arith) (within_above h p (n ∷ ns) w) u
    (λ j i. f j (of_above m j (n ∷ ns) i).0) (down_half d e h p m n ns (above m (n ∷ ns)) x q (right_half e h p (n ∷ ns)) u k))
