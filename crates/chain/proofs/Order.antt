-- The order along the chain, as the code tests it.
use Rattle.std.proofs.Common.{◌≡◌, ℕ, ◌-◌, ◌*◌, ◌%◌, ◌^◌, ◌<◌, ◌≤◌, Bool, true, false, T, eqb, sym, refl, arith, pow_pos}
use Rattle.std.proofs.lemmas.Bool.{cases_lt, and_parts, eq-eqb, eqb-true}
use Rattle.tree.specs.declared.Node.{Node}
use Rattle.tree.specs.Nodes.{width_of, IsNode, Twins}
use Rattle.tree.proofs.Members.{range}
use Rattle.tree.proofs.Places.{under_of_node}
use Rattle.tree.proofs.Shapes.{twins_from, twins_to}
use Rattle.chain.specs.Reading.{end_of, is_twin}

-- a node ends within the tree, and after its first number
pub end_within : (d : ℕ) (x : Node) → IsNode d x → end_of d x ≤ 2 ^ d
end_within d x i = let r = range d 0 d 0 x (omega arith) (under_of_node d x i) in omega arith

pub end_after : (d : ℕ) (x : Node) → x.first < end_of d x
end_after d x = omega (arith, pow_pos (d - x.depth))

-- the sibling test
twin_true : (d : ℕ) (x y : Node) → Twins d x y → is_twin d x y ≡ true
twin_true d x y t =
    let o = twins_to d (width_of d x.depth) x y refl t in
    let a : eqb x.depth y.depth ≡ true = eq-eqb _ _ o.same in
    let b : eqb (end_of d x) y.first ≡ true = eq-eqb _ _ o.next in
    let c : eqb (x.first % (2 * width_of d x.depth)) 0 ≡ true = eq-eqb _ _ o.even in
    rw (a, b, c)

pub twin_from : (d : ℕ) (x y : Node) → IsNode d x → IsNode d y → is_twin d x y ≡ true → Twins d x y
twin_from d x y i j t = grind (arith, and_parts, eqb-true, cases_lt, twins_from)

pub twin_is : (d : ℕ) (x y : Node) (r : Bool) → IsNode d x → IsNode d y → (T r → Twins d x y) → (Twins d x y → T r) → r ≡ is_twin d x y
twin_is d x y true i j f g = sym (twin_true d x y (f tt))
twin_is d x y false i j f g = grind (arith, twin_from)
