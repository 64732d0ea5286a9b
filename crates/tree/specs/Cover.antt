-- The cover of a list of spent numbers: which nodes it has, in which order, and that no smaller one would do.
use Rattle.std.specs.Prelude.{◌≡◌, ℕ, zero, suc, ◌+◌, ◌-◌, ◌*◌, ◌^◌, ◌<◌, ◌≤◌, ◌⊎◌, ◌↔◌, List, [], ◌∷◌, ◌++◌, length, filter, nat_le, nat_lt}
use Rattle.tree.specs.declared.Node.{Node}
use Rattle.tree.specs.Nodes.{node_at, root_node, width_of, IsNode, Covers, Child}

-- x stands in the list
abbrev pub In : {A : Type 0} → A → List A → Type 0
In x [] = ⊥
In x (y ∷ ys) = (x ≡ y) ⊎ In x ys

-- x covers a number of the list, x covers none
abbrev pub Struck : ℕ → List ℕ → Node → Type 0
Struck d ns x = (n : ℕ) × In n ns × Covers d x n

abbrev pub Free : ℕ → List ℕ → Node → Type 0
Free d ns x = (n : ℕ) → In n ns → Covers d x n → ⊥

-- x is the root, or the child of a node that covers a spent number
abbrev pub Picked : ℕ → List ℕ → Node → Type 0
Picked d spent x = (x ≡ root_node) ⊎ ((y : Node) × IsNode d y × Child d y x × Struck d spent y)

-- ---- the cover, computed
-- the numbers of the list below m, and those at m or above
abbrev pub below : ℕ → List ℕ → List ℕ
below m ns = filter (λ n. nat_lt n m) ns

abbrev pub above : ℕ → List ℕ → List ℕ
above m ns = filter (λ n. nat_le m n) ns

-- the cover of the tree of h levels below the node (e, p), given the spent numbers under that node
abbrev pub cover_at : ℕ → ℕ → ℕ → List ℕ → List Node
cover_at e h p [] = node_at e p ∷ []
cover_at e zero p (n ∷ ns) = []
cover_at e (suc h) p (n ∷ ns) = cover_at (suc e) h p (below (p + 2 ^ h) (n ∷ ns)) ++ cover_at (suc e) h (p + 2 ^ h) (above (p + 2 ^ h) (n ∷ ns))

-- of the tree of d levels
abbrev pub cover : ℕ → List ℕ → List Node
cover d spent = cover_at 0 d 0 (below (2 ^ d) spent)

-- ---- what is proved of it
-- it holds the nodes that cover no spent number and are the root or have a parent that covers one, and no others
abbrev pub Characterised : Type 0
Characterised = (d : ℕ) (spent : List ℕ) (x : Node) → In x (cover d spent) ↔ (IsNode d x × Free d spent x × Picked d spent x)

-- each node ends before the next begins
abbrev pub Ordered : ℕ → List Node → Type 0
Ordered d [] = Unit {0}
Ordered d (x ∷ xs) = ((y : Node) → In y xs → x.first + width_of d x.depth ≤ y.first) × Ordered d xs

abbrev pub InOrder : Type 0
InOrder = (d : ℕ) (spent : List ℕ) → Ordered d (cover d spent)

-- a node of the list covers n
abbrev pub Reached : ℕ → List Node → ℕ → Type 0
Reached d xs n = (x : Node) × In x xs × Covers d x n

-- a number lies under a node of the cover exactly when it is unspent, and under one only
abbrev pub Exactly : Type 0
Exactly = (d : ℕ) (spent : List ℕ) (n : ℕ) → n < 2 ^ d → Reached d (cover d spent) n ↔ (In n spent → ⊥)

abbrev pub AtMostOne : Type 0
AtMostOne = (d : ℕ) (spent : List ℕ) (n : ℕ) (x y : Node) → In x (cover d spent) → In y (cover d spent) → Covers d x n → Covers d y n → x ≡ y

-- with every number spent nothing is left
abbrev pub Exhausted : Type 0
Exhausted = (d : ℕ) (spent : List ℕ) → ((n : ℕ) → n < 2 ^ d → In n spent) → cover d spent ≡ []

-- nodes that cover each unspent number and no spent one
pub record CoversExactly (d : ℕ) (spent : List ℕ) (xs : List Node) : Type 0 where
  pub nodes : (x : Node) → In x xs → IsNode d x
  pub free : (x : Node) → In x xs → Free d spent x
  pub reach : (n : ℕ) → n < 2 ^ d → (In n spent → ⊥) → Reached d xs n

-- such nodes are never fewer than those of the cover
abbrev pub Least : Type 0
Least = (d : ℕ) (spent : List ℕ) (xs : List Node) → CoversExactly d spent xs → length (cover d spent) ≤ length xs

-- only which numbers are spent counts, not their order nor how often one is listed
abbrev pub SameSet : Type 0
SameSet = (d : ℕ) (ms ns : List ℕ) → ((n : ℕ) → In n ms ↔ In n ns) → cover d ms ≡ cover d ns

-- no number stands twice
abbrev pub Distinct : List ℕ → Type 0
Distinct [] = Unit {0}
Distinct (n ∷ ns) = (In n ns → ⊥) × Distinct ns

-- with k numbers spent, k at least 2 ^ f, the cover has at most k * (d - f) nodes
abbrev pub Few : Type 0
Few = (d f : ℕ) (spent : List ℕ) → Distinct spent → ((n : ℕ) → In n spent → n < 2 ^ d) → 2 ^ f ≤ length spent →
    length (cover d spent) ≤ length spent * (d - f)
