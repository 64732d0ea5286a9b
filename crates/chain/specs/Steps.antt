-- Where a walk along the chain stands.
use Rattle.std.specs.Prelude.{◌≡◌, ℕ, Some, None, Option}
use Rattle.tree.specs.declared.Node.{Node}
use Rattle.tree.specs.Nodes.{IsNode}
use Rattle.chain.specs.Reading.{end_of}

-- the record before ends at `from`, and nothing before ends at 0
abbrev pub Preceding : ℕ → Option Node → ℕ → Type 0
Preceding d None from = from ≡ 0
Preceding d (Some x) from = IsNode d x × (from ≡ end_of d x)
