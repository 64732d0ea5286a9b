-- The values in a row, and the links that are made from them.
use Rattle.std.proofs.Common.{◌≡◌, ℕ, zero, suc, ◌+◌, ◌-◌, ◌^◌, ◌<◌, ◌≤◌, List, [], ◌∷◌, ◌++◌, length, get_or, map, drop, refl, ap, ◌∙◌, arith}
use Rattle.std.proofs.lemmas.List.{drop_more, get_or_append_left, get_or-map, length-map}
use Rattle.tree.specs.declared.Node.{Node}
use Rattle.tree.specs.Nodes.{max_levels, root_node, Above}
use Rattle.tree.specs.Puncture.{siblings_from}
use Rattle.tree.specs.Values.{valued}
use Rattle.tree.proofs.Flanks.{length_siblings}
use Rattle.tree.proofs.Members.{range}
use Rattle.tree.proofs.Places.{under_of_node}
use Rattle.tree.proofs.Keys.{sibling_lies}
use Rattle.calls.specs.Files.{links_in}
use Rattle.puncture.specs.Laying.{backward, last_links, links_for}
use Rattle.puncture.proofs.Open.{in_at}

-- ---- the values
pub value_at_is : (f : Node → List ℕ) (nodes : List Node) (rest : List (List ℕ)) (j : ℕ) → j < length nodes → get_or (map f nodes ++ rest) j [] ≡ f (get_or nodes j root_node)
value_at_is f nodes rest j h = grind (arith, get_or_append_left, get_or-map, length-map)

-- ---- the links
last_are : (us : List ℕ) (nodes : List Node) (row : List (List ℕ)) (f : Node → List ℕ) → ((j : ℕ) → j < length nodes → get_or row j [] ≡ f (get_or nodes j root_node)) →
    (n : ℕ) → n ≤ length nodes → last_links us nodes row (length nodes) n ≡ links_in (backward us n) (valued f (drop (length nodes - n) nodes))
last_are us nodes row f v zero l = refl
last_are us nodes row f v (suc n) l =
    let m = length nodes in
    let a : m - suc n + 1 ≡ m - n = omega arith in
    let i = last_are us nodes row f v n (omega arith) in
    let q : drop (m - suc n) nodes ≡ get_or nodes (m - suc n) root_node ∷ drop (m - n) nodes =
    drop_more nodes (m - suc n) root_node (omega arith) ∙ ap (λ (k : ℕ). get_or nodes (m - suc n) root_node ∷ drop k nodes) a in
    let w = v (m - suc n) (omega arith) in
    rw (i, w, q)

pub links_are : (us : List ℕ) (nodes : List Node) (row : List (List ℕ)) (f : Node → List ℕ) → ((j : ℕ) → j < length nodes → get_or row j [] ≡ f (get_or nodes j root_node)) →
    links_for us nodes row ≡ links_in (backward us (length nodes)) (valued f nodes)
links_are us nodes row f v =
    let z : length nodes - length nodes ≡ 0 = omega arith in
    rw z at (last_are us nodes row f v (length nodes) (omega arith))

-- ---- the first numbers of siblings fit a record
pub siblings_small : (d n : ℕ) (x : Node) (j : ℕ) → Above d x n → j < length (siblings_from d x n) → (get_or (siblings_from d x n) j root_node).first < 2 ^ d
siblings_small d n x j a l =
    let y = get_or (siblings_from d x n) j root_node in
    let s = sibling_lies d n x y a.is_node.shallow a.covers (in_at (siblings_from d x n) root_node j l) in
    let r = range d 0 d 0 x (omega arith) (under_of_node d x a.is_node) in
    omega (arith, s.within.1, r.high)

pub siblings_few : (d n : ℕ) (x : Node) → Above d x n → length (siblings_from d x n) ≤ max_levels
siblings_few d n x a = omega (arith, length_siblings x.depth (d - x.depth) x.first n, a.few)

pub ruleset fitting = (siblings_few, siblings_small)
