-- The nodes of a complete binary tree whose leaves are the numbers below 2 ^ d.
use Rattle.std.specs.Prelude.{◌≡◌, ℕ, suc, ◌+◌, ◌-◌, ◌*◌, ◌%◌, ◌^◌, ◌<◌, ◌≤◌, ◌⊎◌, Bool, ◌&&◌, ◌==◌, nat_le, nat_lt}
use Rattle.tree.specs.declared.Node.{Node}

-- the levels below the root of the trees in use: their numbers are those below 2 ^ 16
abbrev pub tree_levels : ℕ
tree_levels = 16

-- the code goes with trees of at most this many levels
abbrev pub max_levels : ℕ
max_levels = 24

-- the node at a depth that begins at a first number
abbrev pub node_at : ℕ → ℕ → Node
node_at e p = record { depth = e; first = p }

abbrev pub root_node : Node
root_node = node_at 0 0

-- how many numbers a node at depth e covers in a tree of d levels
abbrev pub width_of : ℕ → ℕ → ℕ
width_of d e = 2 ^ (d - e)

-- x is a node of the tree of d levels: not below the leaves, and its first number is a multiple of its width
pub record IsNode (d : ℕ) (x : Node) : Type 0 where
  pub shallow : x.depth ≤ d
  pub place : ℕ
  pub aligned : x.first ≡ place * width_of d x.depth
  pub inside : x.first < 2 ^ d

-- the test of it: the tree of d levels has a node at depth e that begins at p
abbrev pub is_node : ℕ → ℕ → ℕ → Bool
is_node d e p = nat_le e d && (nat_lt p (2 ^ d) && p % width_of d e == 0)

-- x covers the number n
abbrev pub Covers : ℕ → Node → ℕ → Type 0
Covers d x n = (x.first ≤ n) × (n < x.first + width_of d x.depth)

-- x is a node, of a tree that the code goes with, and covers n: there is a way from x down to n
pub record Above (d : ℕ) (x : Node) (n : ℕ) : Type 0 where
  pub few : d ≤ max_levels
  pub is_node : IsNode d x
  pub covers : Covers d x n

-- the two children of a node
abbrev pub left_of : Node → Node
left_of x = node_at (suc x.depth) x.first

abbrev pub right_of : ℕ → Node → Node
right_of d x = node_at (suc x.depth) (x.first + width_of d (suc x.depth))

-- x is a node, of a tree that the code goes with, and no leaf
pub record HasChildren (d : ℕ) (x : Node) : Type 0 where
  pub few : d ≤ max_levels
  pub is_node : IsNode d x
  pub inner : x.depth < d

-- x is the left or the right child of y
abbrev pub Child : ℕ → Node → Node → Type 0
Child d y x = (x.depth ≡ suc y.depth) × ((x.first ≡ y.first) ⊎ (x.first ≡ y.first + width_of d x.depth))

-- x and y are the two children of one node of the tree, x on the left
pub record Twins (d : ℕ) (x y : Node) : Type 0 where
  pub parent : Node
  pub is_node : IsNode d parent
  pub above : parent.depth < d
  pub on_left : x ≡ left_of parent
  pub on_right : y ≡ right_of d parent
