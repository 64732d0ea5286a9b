-- The cover with its values: what a puncture does to it, and which keys follow from it.
use Rattle.std.proofs.Common.{◌≡◌, ℕ, ◌+◌, ◌-◌, ◌^◌, ◌<◌, ◌≤◌, List, [], ◌∷◌, ◌++◌, sym, refl, ap, ◌∙◌, subst, ap₂, inl, inr, arith}
use Rattle.std.proofs.lemmas.List.{map-append}
use Rattle.tree.specs.declared.Node.{Node}
use Rattle.tree.specs.Nodes.{Covers}
use Rattle.tree.specs.Cover.{In, cover}
use Rattle.tree.specs.Puncture.{siblings_from}
use Rattle.tree.specs.Values.{Expansion, value_of, key_of, value_from, Valued, valued, valued_cover, PuncturedValues, WorkedOut, KeysOf}
use Rattle.tree.proofs.Members.{depth, first, in_right, range}
use Rattle.tree.proofs.Choice.{to}
use Rattle.tree.proofs.Places.{node_of_under, cover_under}
use Rattle.tree.proofs.Exact.{exactly}
use Rattle.tree.proofs.Replacement.{cover_one}
use Rattle.tree.proofs.Cuts.{punctured_at}
use Rattle.tree.proofs.Flanks.{within_one}
use Rattle.tree.proofs.Descent.{composed, key_from_is, agree}

-- a cut of the list with values is a cut of the list
pub record Uncut (f : Node → List ℕ) (xs : List Node) (x : Node) (u : List ℕ) (front back : List Valued) : Type 0 where
  pub before : List Node
  pub after : List Node
  pub was : xs ≡ before ++ (x ∷ after)
  pub here : u ≡ f x
  pub low : valued f before ≡ front
  pub high : valued f after ≡ back

pub uncut : (f : Node → List ℕ) (xs : List Node) (x : Node) (u : List ℕ) (front back : List Valued) → valued f xs ≡ front ++ ((x, u) ∷ back) → Uncut f xs x u front back
uncut f [] x u [] back q = let z : ◌≡◌ {A = ℕ} 0 1 = cc in absurd (omega arith)
uncut f [] x u (a ∷ front) back q = let z : ◌≡◌ {A = ℕ} 0 1 = cc in absurd (omega arith)
uncut f (y ∷ ys) x u [] back q =
    let a : ◌≡◌ {A = Valued} (y, f y) (x, u) = cc in
    let n : y ≡ x = ap (λ (z : Valued). z.0) a in
    let w : f y ≡ u = ap (λ (z : Valued). z.1) a in
    let t : valued f ys ≡ back = cc in
    record { before = []; after = ys; was = ap (λ (z : Node). z ∷ ys) n; here = sym w ∙ ap f n; low = refl; high = t }
uncut f (y ∷ ys) x u (a ∷ front) back q =
    let h : ◌≡◌ {A = Valued} (y, f y) a = cc in
    let t : valued f ys ≡ front ++ ((x, u) ∷ back) = cc in
    let r = uncut f ys x u front back t in
    record {
      before = y ∷ r.before;
      after = r.after;
      was = ap (λ (l : List Node). y ∷ l) r.was;
      here = r.here;
      low = ap₂ (λ (b : Valued) (l : List Valued). b ∷ l) h r.low;
      high = r.high;
    }

-- a sibling on the way from x to n lies under x
pub record Lies (d : ℕ) (x y : Node) : Type 0 where
  pub shallow : depth y ≤ d
  pub deep : depth x ≤ depth y
  pub within : Covers d x (first y)

pub sibling_lies : (d n : ℕ) (x y : Node) → depth x ≤ d → Covers d x n → In y (siblings_from d x n) → Lies d x y
sibling_lies d n x y o v i =
    let e = depth x in
    let h = d - depth x in
    let p = first x in
    let q : e + h ≡ d = omega arith in
    let c = to d e h p (n ∷ []) y q (within_one d n x v) (subst (λ (l : List Node). In y l) (sym (cover_one e h p n)) i) in
    let r = range d e h p y q c.under in
    record { shallow = r.shallow; deep = r.deep; within = (r.low, omega arith) }

pub punctured_values : PuncturedValues
punctured_values g d v spent n x u front back q c =
    let f : Node → List ℕ = value_of g d v in
    let w : Node → Valued = λ y. (y, f y) in
    let r = uncut f (cover d spent) x u front back q in
    let i : In x (cover d spent) = rw r.was (in_right x r.before (x ∷ r.after) (inl refl)) in
    let o = node_of_under d x (cover_under d spent x i) in
    let s : valued f (siblings_from d x n) ≡ valued (value_from g d x u) (siblings_from d x n) =
    agree (λ y. (y, f y)) (λ y. (y, value_from g d x u y)) (siblings_from d x n) (λ y j.
    let l = sibling_lies d n x y o.shallow c j in
    rw (r.here, composed g d v x y o l.shallow l.deep l.within)) in
    ap (valued f) (punctured_at d spent n x r.before r.after r.was c) ∙ simp (map-append w, r.low, s, r.high)

-- ---- the keys that can be worked out
pub in_valued : (f : Node → List ℕ) (xs : List Node) (x : Node) → In x xs → In (x, f x) (valued f xs)
in_valued f [] x i = absurd i
in_valued f (y ∷ ys) x (inl q) = inl (ap (λ (z : Node). (z, f z)) q)
in_valued f (y ∷ ys) x (inr i) = inr (in_valued f ys x i)

pub of_valued : (f : Node → List ℕ) (xs : List Node) (x : Node) (u : List ℕ) → In (x, u) (valued f xs) → In x xs
of_valued f [] x u i = absurd i
of_valued f (y ∷ ys) x u (inl q) = inl (ap (λ (z : Valued). z.0) q)
of_valued f (y ∷ ys) x u (inr i) = inr (of_valued f ys x u i)

unspent : (g : Expansion) (d : ℕ) (v : List ℕ) (spent : List ℕ) (n : ℕ) → n < 2 ^ d → (k : List ℕ) → WorkedOut g d (valued_cover g d v spent) n k → In n spent → ⊥
unspent g d v spent n l k t = (exactly d spent n l).0 (t.0, of_valued (value_of g d v) (cover d spent) t.0 t.1 t.2, t.3)

pub keys_of : KeysOf
keys_of g d v spent n l = (
  (
    unspent g d v spent n l (key_of g d v n),
    λ f.
        let t = (exactly d spent n l).1 f in
        let x = t.0 in
        let o = node_of_under d x (cover_under d spent x t.1) in
        (x, value_of g d v x, in_valued (value_of g d v) (cover d spent) x t.1, t.2, (key_from_is g d v x n o t.2).same),
  ),
  λ i k t. unspent g d v spent n l k t i,
)
