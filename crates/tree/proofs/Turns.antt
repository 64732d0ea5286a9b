-- Walks down from a node: one turn, and the values of the siblings passed on the way.
use Rattle.std.proofs.Common.{◌≡◌, ℕ, zero, suc, ◌+◌, ◌-◌, ◌^◌, ◌<◌, ◌≤◌, Bool, true, false, List, map, refl, ap, inl, inr, arith, pow_pos, lt-ltb}
use Rattle.std.proofs.lemmas.List.{map-append}
use Rattle.std.proofs.lemmas.Bool.{cases_lt, le-ltb}
use Rattle.tree.specs.declared.Node.{Node}
use Rattle.tree.specs.Nodes.{node_at, left_of, right_of, width_of, Covers, IsNode}
use Rattle.tree.specs.Puncture.{siblings_on, siblings_from}
use Rattle.tree.specs.Values.{Expansion, bit, step_of, value_from, besides}
use Rattle.tree.proofs.Members.{depth, first}
use Rattle.tree.proofs.Descent.{agree, bit_left, bit_right, left_node, right_node}
use Rattle.tree.proofs.Shapes.{halved, node_end}
use Rattle.tree.proofs.Keys.{sibling_lies}

-- from x down to y by way of a child c of x
turned : (g : Expansion) (d : ℕ) (v : List ℕ) (x c y : Node) (b : Bool) → depth c ≡ suc (depth x) → depth c ≤ depth y → depth y ≤ d → bit (d - suc (depth x)) (first y) ≡ b →
    value_from g d c (step_of g b v) y ≡ value_from g d x v y
turned g d v x c y b k l m q =
    let a : depth y - depth x ≡ suc (depth y - depth c) = omega arith in
    let h : depth y - depth c + (d - depth y) ≡ d - suc (depth x) = omega arith in
    rw (a, h, q)

-- the siblings below a child have the values that follow from x's
below_child : (g : Expansion) (d n : ℕ) (v : List ℕ) (x c : Node) (b : Bool) → IsNode d c → Covers d c n → depth c ≡ suc (depth x) →
    ((m : ℕ) → Covers d c m → bit (d - suc (depth x)) m ≡ b) →
    map (value_from g d c (step_of g b v)) (siblings_from d c n) ≡ map (value_from g d x v) (siblings_from d c n)
below_child g d n v x c b i s q f =
    agree (value_from g d c (step_of g b v)) (value_from g d x v) (siblings_from d c n) (λ y j.
    let l = sibling_lies d n c y i.shallow s j in
    turned g d v x c y b q l.deep l.shallow (f (first y) l.within))

-- a child's value follows in one turn
child_value : (g : Expansion) (d : ℕ) (v : List ℕ) (x : Node) (p : ℕ) (b : Bool) → depth x < d → bit (d - suc (depth x)) p ≡ b → value_from g d x v (node_at (suc (depth x)) p) ≡ step_of g b v
child_value g d v x p b l q = grind (arith, turned)

-- the way goes left, and the right child's value comes last; or it goes right, and the left child's value comes first
pub besides_are : (g : Expansion) (d h n : ℕ) (v : List ℕ) (x : Node) → depth x + h ≡ d → IsNode d x → Covers d x n → besides g h n v ≡ map (value_from g d x v) (siblings_on (depth x) h (first x) n)
besides_are g d zero n v x q i c = refl
besides_are g d (suc h) n v x q i c =
    let e = depth x in
    let m = first x + 2 ^ h in
    let f : Node → List ℕ = value_from g d x v in
    let l : e < d = omega arith in
    let k : d - suc e ≡ h = omega arith in
    let w : width_of d (suc e) ≡ 2 ^ h = ap (λ (z : ℕ). 2 ^ z) k in
    let t = halved d e l in
    let u = node_end d x i in
    let z = pow_pos h in
    elim (cases_lt n m) [
      | inl s ↦
          let o = left_node d x i l in
          let a : Covers d (left_of x) n = (c.0, omega arith) in
          let b : bit h n ≡ false = rw k at (bit_left d n x i l a) in
          let r = besides_are g d h n (g.left v) (left_of x) (omega arith) o a in
          let j = rw k at (below_child g d n v x (left_of x) false o a refl (λ j. bit_left d j x i l)) in
          let y = rw w at (child_value g d v x (right_of d x).first true l (bit_right d (right_of d x).first x i l (omega arith, omega arith))) in
          rw (b, lt-ltb n m s, map-append f, r, j, y)
      | inr s ↦
          let o = right_node d x i l (omega arith) in
          let a : Covers d (right_of d x) n = (omega arith, omega arith) in
          let b : bit h n ≡ true = rw k at (bit_right d n x i l a) in
          let r = rw w at (besides_are g d h n (g.right v) (right_of d x) (omega arith) o a) in
          let j = rw k at (below_child g d n v x (right_of d x) true o a refl (λ j. bit_right d j x i l)) in
          let y = child_value g d v x (first x) false l (bit_left d (first x) x i l (omega arith, omega arith)) in
          rw (b, le-ltb n m s, r, j, y)
    ]
