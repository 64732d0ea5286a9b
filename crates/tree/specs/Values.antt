-- The values at the nodes, from a value at the root, by any two functions from a parent's value to its children's.
use Rattle.std.specs.Prelude.{◌≡◌, ℕ, zero, suc, ◌+◌, ◌-◌, ◌/◌, ◌%◌, ◌^◌, ◌<◌, ◌≤◌, Bool, true, false, ◌↔◌, List, [], ◌∷◌, ◌++◌, map, length, ◌==◌}
use Rattle.tree.specs.declared.Node.{Node}
use Rattle.tree.specs.Nodes.{node_at, root_node, left_of, right_of, IsNode, Covers}
use Rattle.tree.specs.Cover.{In, Free, cover}
use Rattle.tree.specs.Puncture.{siblings_from}

-- what a generator means: the values of the left and of the right child, from their parent's
pub record Expansion : Type 0 where
  pub left : List ℕ → List ℕ
  pub right : List ℕ → List ℕ

-- the bit of n at height h, true where the way to n goes right
abbrev pub bit : ℕ → ℕ → Bool
bit h n = n / 2 ^ h % 2 == 1

abbrev pub step_of : Expansion → Bool → List ℕ → List ℕ
step_of g false v = g.left v
step_of g true v = g.right v

-- the k bits of n above its `low` lowest ones, the highest first: the turns on k levels down to height `low`
abbrev pub way : ℕ → ℕ → ℕ → List Bool
way zero low n = []
way (suc k) low n = bit (k + low) n ∷ way k low n

-- the value at the end of a way that starts at a node of value v: one use of the generator for each turn
abbrev pub follow : Expansion → List ℕ → List Bool → List ℕ
follow g v [] = v
follow g v (b ∷ bs) = follow g (step_of g b v) bs

-- the value of a node in a tree of d levels with v at the root, and the key of a number, after Goldreich, Goldwasser and Micali
abbrev pub value_of : Expansion → ℕ → List ℕ → Node → List ℕ
value_of g d v x = follow g v (way x.depth (d - x.depth) x.first)

abbrev pub key_of : Expansion → ℕ → List ℕ → ℕ → List ℕ
key_of g d v n = follow g v (way d 0 n)

-- the turns from the node x down to the leaf n; the key of n as it follows from x's value v
abbrev pub way_from : ℕ → Node → ℕ → List Bool
way_from d x n = way (d - x.depth) 0 n

abbrev pub key_from : Expansion → ℕ → Node → List ℕ → ℕ → List ℕ
key_from g d x v n = follow g v (way_from d x n)

-- the value of a node y under x, as it follows from x's value v
abbrev pub value_from : Expansion → ℕ → Node → List ℕ → Node → List ℕ
value_from g d x v y = follow g v (way (y.depth - x.depth) (d - y.depth) y.first)

-- the generator calls made on the way from x down to the leaf n: one for each turn, and the turns are the levels below x
pub record Counted (d : ℕ) (x : Node) (n : ℕ) (calls : ℕ) : Type 0 where
  pub turns : calls ≡ length (way_from d x n)
  pub levels : length (way_from d x n) ≡ d - x.depth

-- the values of the siblings on the way from x to n, in the siblings' order
abbrev pub sibling_values : Expansion → ℕ → Node → List ℕ → ℕ → List (List ℕ)
sibling_values g d x v n = map (value_from g d x v) (siblings_from d x n)

-- the same by the turns, on the way down k levels to n from a node of value v: a sibling on the left comes before those further down
abbrev pub flanked : Bool → List ℕ → List ℕ → List (List ℕ) → List (List ℕ)
flanked false l r vs = vs ++ (r ∷ [])
flanked true l r vs = l ∷ vs

abbrev pub besides : Expansion → ℕ → ℕ → List ℕ → List (List ℕ)
besides g zero n v = []
besides g (suc k) n v = flanked (bit k n) (g.left v) (g.right v) (besides g k n (step_of g (bit k n) v))

-- ---- what is proved of them
pub record TreeLaw (g : Expansion) (d : ℕ) (v : List ℕ) : Type 0 where
  pub top : value_of g d v root_node ≡ v
  pub on_left : (x : Node) → x.depth < d → IsNode d x → value_of g d v (left_of x) ≡ g.left (value_of g d v x)
  pub on_right : (x : Node) → x.depth < d → IsNode d x → value_of g d v (right_of d x) ≡ g.right (value_of g d v x)
  pub leaf : (n : ℕ) → key_of g d v n ≡ value_of g d v (node_at d n)

-- the root has the value given, each child its side's function of its parent's, and a number's key is its leaf's value
abbrev pub ValuesAre : Type 0
ValuesAre = (g : Expansion) (d : ℕ) (v : List ℕ) → TreeLaw g d v

-- going down from any node gives the tree's values below it
abbrev pub Composed : Type 0
Composed = (g : Expansion) (d : ℕ) (v : List ℕ) (x y : Node) → IsNode d x → y.depth ≤ d → x.depth ≤ y.depth → Covers d x y.first →
    value_from g d x (value_of g d v x) y ≡ value_of g d v y

-- going down from any node that covers n gives n's key, in one step for each level below the node
pub record KeyLaw (g : Expansion) (d : ℕ) (v : List ℕ) (x : Node) (n : ℕ) : Type 0 where
  pub same : key_from g d x (value_of g d v x) n ≡ key_of g d v n
  pub steps : length (way_from d x n) ≡ d - x.depth

abbrev pub KeyFrom : Type 0
KeyFrom = (g : Expansion) (d : ℕ) (v : List ℕ) (x : Node) (n : ℕ) → IsNode d x → Covers d x n → KeyLaw g d v x n

-- ---- the cover with its values
abbrev pub Valued : Type 0
Valued = Node × List ℕ

abbrev pub valued : (Node → List ℕ) → List Node → List Valued
valued f xs = map (λ x. (x, f x)) xs

-- the cover of the spent numbers, in the tree of d levels with v at the root
abbrev pub valued_cover : Expansion → ℕ → List ℕ → List ℕ → List Valued
valued_cover g d v spent = valued (value_of g d v) (cover d spent)

-- two trees that give one value to each node that covers no spent number have one cover with values
abbrev pub Agreed : Type 0
Agreed = (d : ℕ) (spent : List ℕ) (f f' : Node → List ℕ) → ((x : Node) → IsNode d x → Free d spent x → f x ≡ f' x) → valued f (cover d spent) ≡ valued f' (cover d spent)

-- spending n with values: the siblings that come in have the values that follow from x's, and those are the tree's
abbrev pub PuncturedValues : Type 0
PuncturedValues = (g : Expansion) (d : ℕ) (v : List ℕ) (spent : List ℕ) (n : ℕ) (x : Node) (u : List ℕ) (front back : List Valued) →
    valued_cover g d v spent ≡ front ++ ((x, u) ∷ back) → Covers d x n →
    valued_cover g d v (n ∷ spent) ≡ front ++ (valued (value_from g d x u) (siblings_from d x n) ++ back)

-- from the nodes and values listed k can be worked out as the key of n: a listed node covers n, and the way down from its value ends at k
abbrev pub WorkedOut : Expansion → ℕ → List Valued → ℕ → List ℕ → Type 0
WorkedOut g d xs n k = (x : Node) × (v : List ℕ) × In (x, v) xs × Covers d x n × (key_from g d x v n ≡ k)

-- from the cover with values the key of an unspent number can be worked out, and no key at all of a spent one
abbrev pub KeysOf : Type 0
KeysOf = (g : Expansion) (d : ℕ) (v : List ℕ) (spent : List ℕ) (n : ℕ) → n < 2 ^ d →
    (WorkedOut g d (valued_cover g d v spent) n (key_of g d v n) ↔ (In n spent → ⊥)) × (In n spent → (k : List ℕ) → WorkedOut g d (valued_cover g d v spent) n k → ⊥)
