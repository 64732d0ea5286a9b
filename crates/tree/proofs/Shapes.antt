-- Which depths and first numbers make a node, as the code tests it.
use Rattle.std.proofs.Common.{◌≡◌, ℕ, suc, ◌+◌, ◌-◌, ◌*◌, ◌/◌, ◌%◌, ◌^◌, ◌<◌, ◌≤◌, true, sym, refl, ap, ◌∙◌, subst, div-add-mod', arith}
use Rattle.std.proofs.lemmas.Nat.{one_shl}
use Rattle.std.proofs.lemmas.Bool.{le-leb, lt-ltb, eq-eqb}
use native.Mathlib.Nat.{mul-mod_left}
use Rattle.tree.specs.declared.Node.{Node}
use Rattle.tree.specs.Nodes.{node_at, width_of, IsNode, is_node, Twins}
use Rattle.tree.proofs.Members.{depth, first, range}
use Rattle.tree.proofs.Places.{under_of_node}
use Rattle.tree.proofs.Choice.{node_eq}

-- 1 << k
pub shifted : (k : ℕ) → k ≤ 24 → 1 * 2 ^ k % 4294967296 ≡ 2 ^ k
shifted k l = one_shl k 32 (omega arith)

pub multiple : (p w : ℕ) → p % w ≡ 0 → p ≡ p / w * w
multiple p w z = grind (arith, div-add-mod')

node_from : (d w : ℕ) (x : Node) → depth x ≤ d → w ≡ width_of d (depth x) → first x % w ≡ 0 → first x < 2 ^ d → IsNode d x
node_from d w x l q z i =
    record { shallow = l; place = first x / w; aligned = subst (λ (v : ℕ). first x ≡ first x / w * v) q (multiple (first x) w z); inside = i }

pub node_to : (d w : ℕ) (x : Node) → w ≡ width_of d (depth x) → IsNode d x → first x % w ≡ 0
node_to d w x q i = grind (arith, mul-mod_left)

-- the test finds the nodes, and no other
pub tested_node : (d : ℕ) (x : Node) → is_node d x.depth x.first ≡ true → IsNode d x
tested_node d x t = grind (arith, node_from)

pub node_tested : (d : ℕ) (x : Node) → IsNode d x → is_node d x.depth x.first ≡ true
node_tested d x i =
    let r = node_to d (width_of d x.depth) x refl i in
    rw (le-leb _ _ i.shallow, lt-ltb _ _ i.inside, eq-eqb _ _ r)

-- the width halves at each level
pub halved : (d e : ℕ) → e < d → width_of d e ≡ 2 * width_of d (suc e)
halved d e l =
    let k : d - e ≡ suc (d - suc e) = omega arith in
    let w : 2 ^ (d - e) ≡ 2 ^ suc (d - suc e) = ap (λ (z : ℕ). 2 ^ z) k in
    omega arith

pub twins_from : (d w : ℕ) (x y : Node) → IsNode d x → w ≡ width_of d (depth x) → 0 < depth x → depth x ≡ depth y → first x % (2 * w) ≡ 0 → first x + w ≡ first y → Twins d x y
twins_from d w x y i q l s z t =
    let e = depth x - 1 in
    let k : depth x ≡ suc e = omega arith in
    let h = halved d e (omega (arith, i.shallow)) in
    let q1 : w ≡ width_of d (suc e) = q ∙ ap (width_of d) k in
    let p = node_at e (first x) in
    record {
      parent = p;
      is_node = node_from d (2 * w) p (omega (arith, i.shallow)) (omega arith) z i.inside;
      above = omega (arith, i.shallow);
      on_left = node_eq x (suc e) (first x) k refl;
      on_right = node_eq y (suc e) (first x + width_of d (suc e)) (sym s ∙ k) (sym t ∙ ap (λ (v : ℕ). first x + v) q1);
    }

pub record Told (d w : ℕ) (x y : Node) : Type 0 where
  pub is_node : IsNode d x
  pub deep : 0 < depth x
  pub same : depth x ≡ depth y
  pub even : first x % (2 * w) ≡ 0
  pub next : first x + w ≡ first y

pub twins_to : (d w : ℕ) (x y : Node) → w ≡ width_of d (depth x) → Twins d x y → Told d w x y
twins_to d w x y q t =
    let p = t.parent in
    let l = t.above in
    let kx : depth x ≡ suc (depth p) = ap depth t.on_left in
    let ky : depth y ≡ suc (depth p) = ap depth t.on_right in
    let fx : first x ≡ first p = ap first t.on_left in
    let fy : first y ≡ first p + width_of d (suc (depth p)) = ap first t.on_right in
    let q1 : w ≡ width_of d (suc (depth p)) = q ∙ ap (width_of d) kx in
    let h = halved d (depth p) l in
    let o = t.is_node in
    let g : 2 * w ≡ width_of d (depth p) = omega arith in
    let v : first x % (2 * w) ≡ 0 = ap (λ (z : ℕ). z % (2 * w)) fx ∙ node_to d (2 * w) p g o in
    let m = multiple (first x) (2 * w) v in
    let a : first x ≡ first x / (2 * w) * 2 * w = omega arith in
    record {
      is_node = record {
        shallow = omega arith;
        place = first x / (2 * w) * 2;
        aligned = subst (λ (z : ℕ). first x ≡ first x / (2 * w) * 2 * z) q a;
        inside = omega (arith, o.inside);
      };
      deep = omega arith;
      same = kx ∙ sym ky;
      even = v;
      next = omega arith;
    }

-- a node ends within the tree
pub node_end : (d : ℕ) (x : Node) → IsNode d x → first x + width_of d (depth x) ≤ 2 ^ d
node_end d x i = let r = range d 0 d 0 x (omega arith) (under_of_node d x i) in omega arith
