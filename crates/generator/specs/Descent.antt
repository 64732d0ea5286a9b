-- What a descent from a node to a number answers, and what it leaves in the lent buffers.
use Rattle.std.specs.Prelude.{◌≡◌, ℕ, ◌-◌, List, [], ◌++◌, length, replicate, Some, None, Option}
use Rattle.octets.specs.Buffers.{zeros}
use Rattle.tree.specs.declared.Node.{Node}
use Rattle.tree.specs.Nodes.{max_levels, Above}
use Rattle.tree.specs.Values.{Expansion, value_of, key_of, key_from, Counted, sibling_values}
use Rattle.generator.specs.declared.Values.{Values}
use Rattle.generator.specs.Bytes.{value_length}

-- three values of zeros
abbrev pub no_values : Values
no_values = record { value = zeros value_length; left = zeros value_length; right = zeros value_length }

-- there is a way from x down to n; the calls made are counted; the value that was x's has become n's key
pub record Descended (g : Expansion) (d : ℕ) (x : Node) (n : ℕ) (before : List ℕ) (calls : ℕ) (after : List ℕ) : Type 0 where
  pub way : Above d x n
  pub counted : Counted d x n calls
  pub key : after ≡ key_from g d x before n
  -- in a tree with v at the root, where the value before was x's in that tree, it is now the key of n in that tree
  pub of_tree : (v : List ℕ) → before ≡ value_of g d v x → after ≡ key_of g d v n

-- none where there is no such way; then the value is gone
abbrev pub Descent : Expansion → ℕ → Node → ℕ → List ℕ → Option ℕ → List ℕ → Type 0
Descent g d x n before (Some calls) after = Descended g d x n before calls after
Descent g d x n before None after = (Above d x n → ⊥) × (after ≡ zeros value_length)

-- a row for as many values as the most levels: these values, and then values of zeros
abbrev pub row_of : List (List ℕ) → List (List ℕ)
row_of vs = vs ++ replicate (max_levels - length vs) (zeros value_length)

-- what the row then holds: the values of the siblings passed, in their order
abbrev pub Kept : Expansion → ℕ → Node → ℕ → List ℕ → Option ℕ → List (List ℕ) → Type 0
Kept g d x n before (Some calls) row = row ≡ row_of (sibling_values g d x before n)
Kept g d x n before None row = row ≡ row_of []
