-- What spending one more number does to the cover: its node gives way to the siblings on the way down to the number.
use Rattle.std.specs.Prelude.{◌≡◌, ℕ, zero, suc, ◌+◌, ◌-◌, ◌^◌, ◌≤◌, Bool, true, false, ◌↔◌, List, [], ◌∷◌, ◌++◌, length, Some, None, Option, nat_lt}
use Rattle.tree.specs.declared.Node.{Node}
use Rattle.tree.specs.Nodes.{node_at, IsNode, Covers, Child, Above}
use Rattle.tree.specs.Cover.{In, Ordered, cover}

-- where the child on the way begins: at p on the left, at the middle m on the right
abbrev pub turn : Bool → ℕ → ℕ → ℕ
turn true p m = p
turn false p m = m

-- the other child's place beside the siblings further down: after them where the way goes left, else before
abbrev pub flank : Bool → ℕ → ℕ → ℕ → List Node → List Node
flank true e p m xs = xs ++ (node_at e m ∷ [])
flank false e p m xs = node_at e p ∷ xs

-- the siblings of the nodes on the way from (e, p) down h levels to n, in increasing order
abbrev pub siblings_on : ℕ → ℕ → ℕ → ℕ → List Node
siblings_on e zero p n = []
siblings_on e (suc h) p n = flank (nat_lt n (p + 2 ^ h)) (suc e) p (p + 2 ^ h) (siblings_on (suc e) h (turn (nat_lt n (p + 2 ^ h)) p (p + 2 ^ h)) n)

-- from the node x of a tree of d levels down to the leaf n
abbrev pub siblings_from : ℕ → Node → ℕ → List Node
siblings_from d x n = siblings_on x.depth (d - x.depth) x.first n

-- what listing them answers: none where there is no way from x down to n
abbrev pub Listed : ℕ → Node → ℕ → Option (List Node) → Type 0
Listed d x n (Some ys) = Above d x n × (length ys ≡ d - x.depth) × (ys ≡ siblings_from d x n)
Listed d x n None = Above d x n → ⊥

-- ---- what is proved of them
-- y does not cover n, and is a child of a node that covers n and is not above x
pub record Beside (d : ℕ) (x : Node) (n : ℕ) (y : Node) : Type 0 where
  pub apart : Covers d y n → ⊥
  pub parent : Node
  pub is_node : IsNode d parent
  pub child : Child d parent y
  pub inside : x.depth ≤ parent.depth
  pub on_way : Covers d parent n

pub record Siblings (d : ℕ) (x : Node) (n : ℕ) : Type 0 where
  pub count : length (siblings_from d x n) ≡ d - x.depth
  pub order : Ordered d (siblings_from d x n)
  pub members : (y : Node) → IsNode d y → In y (siblings_from d x n) ↔ Beside d x n y

-- the list holds those nodes and no others, in order, one for each level below x
abbrev pub SiblingsAre : Type 0
SiblingsAre = (d n : ℕ) (x : Node) → IsNode d x → Covers d x n → Siblings d x n

-- `after` is `before` with the nodes xs in the place of x
pub record Replaced (before after : List Node) (x : Node) (xs : List Node) : Type 0 where
  pub front : List Node
  pub back : List Node
  pub was : before ≡ front ++ (x ∷ back)
  pub is : after ≡ front ++ (xs ++ back)

-- spending n puts the siblings in the place of the node that covered n, and changes nothing else
abbrev pub Punctured : Type 0
Punctured = (d : ℕ) (spent : List ℕ) (n : ℕ) (x : Node) → In x (cover d spent) → Covers d x n → Replaced (cover d spent) (cover d (n ∷ spent)) x (siblings_from d x n)

-- the same where the list is cut at x already
abbrev pub PuncturedAt : Type 0
PuncturedAt = (d : ℕ) (spent : List ℕ) (n : ℕ) (x : Node) (front back : List Node) → cover d spent ≡ front ++ (x ∷ back) → Covers d x n →
    cover d (n ∷ spent) ≡ front ++ (siblings_from d x n ++ back)
