-- The links of a chain that is the cover of spent numbers, with the tree's values; such is the chain that stands.
use Rattle.std.proofs.Common.{◌≡◌, ℕ, List, [], ◌∷◌, map, length, sym, refl, ap, ◌∙◌, ap₂, inl, inr}
use Rattle.std.proofs.lemmas.List.{length-map}
use Rattle.tree.specs.declared.Node.{Node}
use Rattle.tree.specs.Nodes.{IsNode, Covers}
use Rattle.tree.specs.Cover.{In, cover}
use Rattle.tree.specs.Values.{Valued, valued, value_of, key_of, key_from, valued_cover}
use Rattle.tree.proofs.Keys.{of_valued}
use Rattle.tree.proofs.Places.{characterised}
use Rattle.tree.proofs.Descent.{key_from_is}
use Rattle.chain.specs.Reading.{Link, valued_of}
use Rattle.chain.specs.Sound.{nodes_of}
use Rattle.chain.proofs.Members.{in_map}
use Rattle.device.specs.Effects.{State}
use Rattle.calls.specs.Kits.{Kit}
use Rattle.calls.specs.Books.{Book}
use Rattle.calls.specs.Pasts.{Mode}
use Rattle.law.proofs.Invariant.{Inv}

-- each node of a chain is a link's
pub link_of : (xs : List Link) (y : Node) → In y (nodes_of xs) → (x : Link) × In x xs × (x.node ≡ y)
link_of (x ∷ xs) y (inl q) = (x, inl refl, sym q)
link_of (x ∷ xs) y (inr i) = let t = link_of xs y i in (t.0, inr t.1, t.2)
link_of [] y i = absurd i

same_nodes : (f : Node → List ℕ) (xs : List Link) (ns : List Node) → map valued_of xs ≡ valued f ns → nodes_of xs ≡ ns
same_nodes f [] [] q = refl
same_nodes f [] (n ∷ ns) q = cc
same_nodes f (x ∷ xs) [] q = cc
same_nodes f (x ∷ xs) (n ∷ ns) q =
    let a : valued_of x ≡ (n, f n) = cc in
    ap₂ (λ (y : Node) (l : List Node). y ∷ l) (ap (λ (z : Valued). z.0) a) (same_nodes f xs ns (cc))

value_at_is : (f : Node → List ℕ) (ns : List Node) (x : Node) (u : List ℕ) → In (x, u) (valued f ns) → u ≡ f x
value_at_is f (y ∷ ys) x u (inl q) = ap (λ (z : Valued). z.1) q ∙ ap f (sym (ap (λ (z : Valued). z.0) q))
value_at_is f (y ∷ ys) x u (inr i) = value_at_is f ys x u i
value_at_is f [] x u i = absurd i

-- a link's node is of the cover, and has the tree's value
pub record Linking (k : Kit) (d : ℕ) (root : List ℕ) (spent : List ℕ) (x : Link) : Type 0 where
  pub member : In x.node (cover d spent)
  pub is_node : IsNode d x.node
  pub value : x.value ≡ value_of k.generator.expansion d root x.node

-- ---- of a chain that is the cover of spent numbers, with the tree's values
module _ (k : Kit) (d : ℕ) (root : List ℕ) (spent : List ℕ) (xs : List Link) (covers : map valued_of xs ≡ valued_cover k.generator.expansion d root spent) where
  pub cover_nodes : nodes_of xs ≡ cover d spent
  cover_nodes = same_nodes (value_of k.generator.expansion d root) xs (cover d spent) covers

  pub cover_count : length xs ≡ length (cover d spent)
  cover_count = sym (length-map xs (λ (x : Link). x.node)) ∙ ap length cover_nodes

  -- each node of the cover is a link's
  pub cover_over : (x : Node) → In x (cover d spent) → (y : Link) × In y xs × (y.node ≡ x)
  cover_over x i = link_of xs x (rw cover_nodes i)

  pub cover_link : (x : Link) → In x xs → Linking k d root spent x
  cover_link x i =
      let f = value_of k.generator.expansion d root in
      let j : In (x.node, x.value) (valued f (cover d spent)) = rw covers at (in_map valued_of x xs i) in
      let n = of_valued f (cover d spent) x.node x.value j in
      record {
        member = n;
        is_node = ((characterised d spent x.node).0 n).0;
        value = value_at_is f (cover d spent) x.node x.value j;
      }

  -- going down from it gives the tree's key
  pub cover_key : (x : Link) (n : ℕ) → In x xs → Covers d x.node n → key_from k.generator.expansion d x.node x.value n ≡ key_of k.generator.expansion d root n
  cover_key x n i c =
      let l = cover_link x i in
      ap (λ (u : List ℕ). key_from k.generator.expansion d x.node u n) l.value ∙ (key_from_is k.generator.expansion d root x.node n l.is_node c).same

-- ---- of the chain that stands
module _ {k : Kit} {d : ℕ} {root name : List ℕ} {m : Mode} {s : State} {b : Book} (v : Inv k d root name m s b) where
  pub nodes_are : nodes_of v.links ≡ cover d b.spent
  nodes_are = cover_nodes k d root b.spent v.links v.covers

  pub link_count : length v.links ≡ length (cover d b.spent)
  link_count = cover_count k d root b.spent v.links v.covers

  pub link_over : (x : Node) → In x (cover d b.spent) → (y : Link) × In y v.links × (y.node ≡ x)
  link_over = cover_over k d root b.spent v.links v.covers

  pub link_is : (x : Link) → In x v.links → Linking k d root b.spent x
  link_is = cover_link k d root b.spent v.links v.covers

  pub key_is : (x : Link) (n : ℕ) → In x v.links → Covers d x.node n → key_from k.generator.expansion d x.node x.value n ≡ key_of k.generator.expansion d root n
  key_is = cover_key k d root b.spent v.links v.covers
