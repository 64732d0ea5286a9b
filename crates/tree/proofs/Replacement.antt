-- What one more spent number does to the computed cover.
use Rattle.std.proofs.Common.{◌≡◌, ℕ, zero, suc, ◌+◌, ◌-◌, ◌^◌, ◌<◌, ◌≤◌, List, [], ◌∷◌, ◌++◌, sym, refl, ap, ◌∙◌, subst, inl, inr, append_assoc, append-nil, arith, lt-ltb, le-leb}
use Rattle.std.proofs.lemmas.Bool.{cases_lt, le-ltb, lt-leb}
use Rattle.tree.specs.declared.Node.{Node}
use Rattle.tree.specs.Nodes.{node_at, Covers}
use Rattle.tree.specs.Cover.{In, below, above, cover_at}
use Rattle.tree.specs.Puncture.{siblings_on, Replaced, Punctured}
use Rattle.tree.proofs.Members.{depth, first, in_cases, Within, within_below, within_above, within_root, range}
use Rattle.tree.proofs.Choice.{to}
use Rattle.tree.proofs.Places.{cover_under, covered_below}

pub cover_one : (e h p n : ℕ) → cover_at e h p (n ∷ []) ≡ siblings_on e h p n
cover_one e zero p n = refl
cover_one e (suc h) p n =
    let m = p + 2 ^ h in
    elim (cases_lt n m) [
      | inl l ↦ rw (lt-ltb n m l, lt-leb m n l, cover_one (suc e) h p n)
      | inr l ↦ rw (le-ltb n m l, le-leb m n l, cover_one (suc e) h m n)
    ]

abbrev ReplacedAt : ℕ → ℕ → ℕ → ℕ → List ℕ → ℕ → Node → Type 0
ReplacedAt d e h p ns n x = Replaced (cover_at e h p ns) (cover_at e h p (n ∷ ns)) x (siblings_on (depth x) (d - depth x) (first x) n)

lone : (d e h p n : ℕ) (x : Node) → e + h ≡ d → x ≡ node_at e p → ReplacedAt d e h p [] n x
lone d e h p n x q i =
    let k : d - e ≡ h = omega arith in
    subst (λ (y : Node). ReplacedAt d e h p [] n y) (sym i)
    (record {
      front = [];
      back = [];
      was = refl;
      is = rw k (cover_one e h p n ∙ sym (append-nil (siblings_on e h p n)));
    })

replaced_on_left : (d e h p n k : ℕ) (ks : List ℕ) (x : Node) → n < p + 2 ^ h → ReplacedAt d (suc e) h p (below (p + 2 ^ h) (k ∷ ks)) n x → ReplacedAt d e (suc h) p (k ∷ ks) n x
replaced_on_left d e h p n k ks x l r = grind (arith, append_assoc, lt-ltb, lt-leb)

replaced_on_right : (d e h p n k : ℕ) (ks : List ℕ) (x : Node) → p + 2 ^ h ≤ n → ReplacedAt d (suc e) h (p + 2 ^ h) (above (p + 2 ^ h) (k ∷ ks)) n x → ReplacedAt d e (suc h) p (k ∷ ks) n x
replaced_on_right d e h p n k ks x l r =
    let m = p + 2 ^ h in
    let ls = cover_at (suc e) h p (below m (k ∷ ks)) in
    record {
      front = ls ++ r.front;
      back = r.back;
      was = ap (λ z. ls ++ z) r.was ∙ simp append_assoc;
      is = rw (le-ltb n m l, le-leb m n l) (ap (λ z. ls ++ z) r.is ∙ simp append_assoc);
    }

punct : (d e h p : ℕ) (ns : List ℕ) (n : ℕ) (x : Node) → e + h ≡ d → Within h p ns → In x (cover_at e h p ns) → Covers d x n → ReplacedAt d e h p ns n x
punct d e h p [] n x q w (inl i) c = lone d e h p n x q i
punct d e h p [] n x q w (inr i) c = absurd i
punct d e zero p (k ∷ ks) n x q w i c = absurd i
punct d e (suc h) p (k ∷ ks) n x q w i c =
    let m = p + 2 ^ h in
    let s : suc e + h ≡ d = omega arith in
    let wl = within_below h p (k ∷ ks) w in
    let wr = within_above h p (k ∷ ks) w in
    elim (in_cases x (cover_at (suc e) h p (below m (k ∷ ks))) (cover_at (suc e) h m (above m (k ∷ ks))) i) [
      | inl a ↦
          let g = range d (suc e) h p x s (to d (suc e) h p (below m (k ∷ ks)) x s wl a).under in
          replaced_on_left d e h p n k ks x (omega arith) (punct d (suc e) h p (below m (k ∷ ks)) n x s wl a c)
      | inr a ↦
          let g = range d (suc e) h m x s (to d (suc e) h m (above m (k ∷ ks)) x s wr a).under in
          replaced_on_right d e h p n k ks x (omega arith) (punct d (suc e) h m (above m (k ∷ ks)) n x s wr a c)
    ]

pub punctured : Punctured
punctured d spent n x i c =
    let l = covered_below d n x (cover_under d spent x i) c in
    rw (lt-ltb n (2 ^ d) l) (punct d 0 d 0 (below (2 ^ d) spent) n x (omega arith) (within_root d spent) i c)
