-- What is left of a listing, and what its next record leaves.
use Rattle.std.specs.Prelude.{◌≡◌, ℕ, List, Option}
use Rattle.std.specs.Borrow.{MutBor}
use Rattle.std.specs.Iterator.{YieldsFirst}
use Rattle.device.specs.Effects.{State, blank}
use Rattle.layout.specs.declared.NodeFields.{NodeFields}
use Rattle.tree.specs.Nodes.{tree_levels}
use Rattle.looking.specs.declared.Records.{Records}
use Rattle.looking.specs.Chains.{chain_from}

module _ {D : Type 0} where
  -- a listing is lent these bytes, and they are zero
  abbrev pub Lent : MutBor (List ℕ) → Records D → Type 0
  Lent bytes r = (r.pad.ghost_name ≡ bytes.ghost_name) × (r.pad.now ≡ blank)

  -- the records that are still to come, by what the device means
  abbrev pub records_left : (D → State) → Records D → List (ℕ × Option NodeFields)
  records_left means r = chain_from tree_levels (means r.device.now) r.slot r.left

  -- the first of these comes; the bytes lent stay the same ones, and zero
  abbrev pub NextRecord : (D → State) → Records D → Option (ℕ × Option NodeFields) → Records D → Type 0
  NextRecord means r x t = YieldsFirst (records_left means) r x t × (r.pad.now ≡ blank → Lent r.pad t)
