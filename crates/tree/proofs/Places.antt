-- The nodes of the tree, by places and by the way down.
use Rattle.std.proofs.Common.{◌≡◌, ℕ, zero, suc, ◌+◌, ◌-◌, ◌*◌, ◌^◌, ◌<◌, ◌≤◌, List, sym, ap, ◌∙◌, subst, inl, inr, mul-le-mul_right, arith, pow-add}
use Rattle.std.proofs.lemmas.Bool.{cases_lt}
use Rattle.tree.specs.declared.Node.{Node}
use Rattle.tree.specs.Nodes.{node_at, Covers, IsNode}
use Rattle.tree.specs.Cover.{In, Free, Picked, Characterised, below, cover}
use Rattle.tree.proofs.Members.{depth, first}
use Rattle.tree.proofs.Members.{in_below, of_below, within_root, Under, range}
use Rattle.tree.proofs.Choice.{node_eq, PickedAt, to, from}

pub record Placed (d e h p : ℕ) (x : Node) : Type 0 where
  pub j : ℕ
  pub k : ℕ
  pub deep : depth x ≡ e + j
  pub at : first x ≡ p + k * 2 ^ (d - depth x)
  pub few : k < 2 ^ j
  pub short : j ≤ h

place_self : (d e h p : ℕ) (x : Node) → x ≡ node_at e p → Placed d e h p x
place_self d e h p x q = record { j = 0; k = 0; deep = omega (arith, ap depth q); at = omega (arith, ap first q); few = omega arith; short = omega arith }

pow_parts : (i j h : ℕ) → i + j ≡ h → 2 ^ h ≡ 2 ^ i * 2 ^ j
pow_parts i j h q = ap (λ (k : ℕ). 2 ^ k) (sym q) ∙ pow-add 2 i j

pub placed : (d e h p : ℕ) (x : Node) → e + h ≡ d → Under e h p x → Placed d e h p x
placed d e zero p x q u = place_self d e zero p x u
placed d e (suc h) p x q (inl u) = place_self d e (suc h) p x u
placed d e (suc h) p x q (inr (inl u)) =
    let r = placed d (suc e) h p x (omega arith) u in
    record { j = suc r.j; k = r.k; deep = omega arith; at = r.at; few = omega arith; short = omega arith }
placed d e (suc h) p x q (inr (inr u)) =
    let r = placed d (suc e) h (p + 2 ^ h) x (omega arith) u in
    let w = pow_parts r.j (d - depth x) h (omega arith) in
    record { j = suc r.j; k = 2 ^ r.j + r.k; deep = omega arith; at = omega arith; few = omega arith; short = omega arith }

pub under_at : (d e h p j k : ℕ) (x : Node) → e + h ≡ d → depth x ≡ e + j → first x ≡ p + k * 2 ^ (d - depth x) → k < 2 ^ j → j ≤ h → Under e h p x
under_at d e zero p j k x q a b c l = grind (arith, node_eq)
under_at d e (suc h) p zero k x q a b c l = grind (arith, node_eq)
under_at d e (suc h) p (suc j) k x q a b c l =
    elim (cases_lt k (2 ^ j)) [
      | inl s ↦ inr (inl (under_at d (suc e) h p j k x (omega arith) (omega arith) b s (omega arith)))
      | inr s ↦
          let w = pow_parts j (d - depth x) h (omega arith) in
          let i = k - 2 ^ j in
          let g : k ≡ 2 ^ j + i = omega arith in
          let b2 : first x ≡ p + (2 ^ j + i) * 2 ^ (d - depth x) = subst (λ (z : ℕ). first x ≡ p + z * 2 ^ (d - depth x)) g b in
          inr (inr (under_at d (suc e) h (p + 2 ^ h) j i x (omega arith) (omega arith) (omega arith) (omega arith) (omega arith)))
    ]

pub node_of_under : (d : ℕ) (x : Node) → Under 0 d 0 x → IsNode d x
node_of_under d x u =
    let r = placed d 0 d 0 x (omega arith) u in
    let g = range d 0 d 0 x (omega arith) u in
    record { shallow = omega arith; place = r.k; aligned = omega (arith, r.at); inside = omega arith }

pub under_of_node : (d : ℕ) (x : Node) → IsNode d x → Under 0 d 0 x
under_of_node d x i =
    let w = pow_parts (depth x) (d - depth x) d (omega (arith, i.shallow)) in
    let few : i.place < 2 ^ depth x =
    elim (cases_lt i.place (2 ^ depth x)) [
      | inl l ↦ l
      | inr l ↦ absurd (omega (arith, i.inside, i.aligned, mul-le-mul_right (2 ^ (d - depth x)) l))
    ] in
    under_at d 0 d 0 (depth x) i.place x (omega arith) (omega arith) (omega (arith, i.aligned)) few i.shallow

-- what a node of the tree covers is below 2 ^ d
pub covered_below : (d n : ℕ) (x : Node) → Under 0 d 0 x → Covers d x n → n < 2 ^ d
covered_below d n x u c = grind (arith, range)

free_up : (d : ℕ) (spent : List ℕ) (x : Node) → Under 0 d 0 x → Free d (below (2 ^ d) spent) x → Free d spent x
free_up d spent x u f n i c = f n (in_below (2 ^ d) n spent i (covered_below d n x u c)) c

free_down : (d : ℕ) (spent : List ℕ) (x : Node) → Free d spent x → Free d (below (2 ^ d) spent) x
free_down d spent x f n i c = f n (of_below (2 ^ d) n spent i).0 c

pub cover_free : (d : ℕ) (spent : List ℕ) (x : Node) → In x (cover d spent) → Free d spent x
cover_free d spent x i =
    let c = to d 0 d 0 (below (2 ^ d) spent) x (omega arith) (within_root d spent) i in
    free_up d spent x c.under c.free

pub cover_under : (d : ℕ) (spent : List ℕ) (x : Node) → In x (cover d spent) → Under 0 d 0 x
cover_under d spent x i = (to d 0 d 0 (below (2 ^ d) spent) x (omega arith) (within_root d spent) i).under

picked_up : (d : ℕ) (spent : List ℕ) (x : Node) → PickedAt d 0 d 0 (below (2 ^ d) spent) x → Picked d spent x
picked_up d spent x (inl q) = inl q
picked_up d spent x (inr (y, u, c, (n, i, v))) = inr (y, node_of_under d y u, c, (n, (of_below (2 ^ d) n spent i).0, v))

picked_down : (d : ℕ) (spent : List ℕ) (x : Node) → Picked d spent x → PickedAt d 0 d 0 (below (2 ^ d) spent) x
picked_down d spent x (inl q) = inl q
picked_down d spent x (inr (y, o, c, (n, i, v))) =
    let u = under_of_node d y o in
    inr (y, u, c, (n, in_below (2 ^ d) n spent i (covered_below d n y u v), v))

pub characterised : Characterised
characterised d spent x = (
  λ i.
      let c = to d 0 d 0 (below (2 ^ d) spent) x (omega arith) (within_root d spent) i in
      (node_of_under d x c.under, free_up d spent x c.under c.free, picked_up d spent x c.picked),
  λ t. from d 0 d 0 (below (2 ^ d) spent) x (omega arith) (within_root d spent) (under_of_node d x t.0) (free_down d spent x t.1) (picked_down d spent x t.2),
)
