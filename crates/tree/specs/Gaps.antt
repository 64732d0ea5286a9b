-- A row that is filled from both ends.
use Rattle.std.specs.Prelude.{List, ◌++◌, take, drop}
use Rattle.tree.specs.declared.Gap.{Gap}

-- the row with xs in the place of what stands in its gap
abbrev pub filled_in : {A : Type 0} → List A → Gap → List A → List A
filled_in row gap xs = take gap.start row ++ (xs ++ drop gap.end row)
