-- The new records of a puncture: which slots they take, and what writing them answers.
use Rattle.std.specs.Prelude.{◌≡◌, ℕ, zero, suc, ◌-◌, ◌≤◌, true, ◌⊎◌, List, [], ◌∷◌, length, Some, None, Ok, Err, Result, slice_index, slice_index_or}
use Rattle.device.specs.Effects.{Slots, State}
use Rattle.fault.specs.declared.Halt.{Halt}
use Rattle.fault.specs.declared.Step.TheVariants.{NewRecord}
use Rattle.layout.specs.Records.{encode_node, fields_of}
use Rattle.tree.specs.declared.Node.{Node}
use Rattle.tree.specs.Nodes.{root_node}
use Rattle.marks.specs.Rows.{unmarked, first_of}
use Rattle.chain.specs.Reading.{Link}
use Rattle.steps.specs.OneStep.{write_of, Stepped}
use Rattle.steps.specs.Writes.{Ran}
use Rattle.chain.specs.Listing.{entry}
use Rattle.calls.specs.Files.{new_writes}

-- the slots without a mark, beside the head's, in increasing order
abbrev pub open_slots : List ℕ → ℕ → List ℕ
open_slots marks count = unmarked marks 1 (count - 1)

-- the first n of a list, the last of them first
abbrev pub backward : List ℕ → ℕ → List ℕ
backward us zero = []
backward us (suc n) = slice_index us n ∷ backward us n

-- the last n of m nodes with the values of a row, each in a slot of us: the last node in the first slot, and so on
abbrev pub last_links : List ℕ → List Node → List (List ℕ) → ℕ → ℕ → List Link
last_links us nodes row m zero = []
last_links us nodes row m (suc n) =
    record { slot = slice_index us n; node = slice_index_or nodes (m - suc n) root_node; value = slice_index_or row (m - suc n) [] } ∷ last_links us nodes row m n

abbrev pub links_for : List ℕ → List Node → List (List ℕ) → List Link
links_for us nodes row = last_links us nodes row (length nodes) (length nodes)

-- the power is on, the device has that many slots, and m of them are open
pub record Able (s : State) (count m : ℕ) (marks : List ℕ) : Type 0 where
  pub power : s.power ≡ true
  pub size : length s.slots ≡ count
  pub room : m ≤ length (open_slots marks count)

-- the links are written, the last leading on to the index `last`, and the answer is the index that leads to the first; or the power fails
abbrev pub Laid : Slots → List Link → ℕ → Result ℕ Halt → State → Type 0
Laid s links last (Ok i) t = (i ≡ entry links last) × Ran s (new_writes links last) (Ok tt) t
Laid s links last (Err h) t = Ran s (new_writes links last) (Err h) t

-- ---- words that the check does not open, so it finds lemmas about the records by them
-- one record, in the first slot without a mark from `from` on; or there is none, or the power fails
unfoldable pub Recording : State → ℕ → Node → List ℕ → List ℕ → ℕ → ℕ → Result ℕ Halt → State → Type 0
Recording s count node value marks from next (Ok f) t =
    (first_of (unmarked marks from (count - from)) ≡ Some f) × Stepped s (write_of f (encode_node (fields_of node next) value) NewRecord) (Ok tt) t
Recording s count node value marks from next (Err h) t =
    ((first_of (unmarked marks from (count - from)) ≡ None) × (t ≡ s))
    ⊎ ((f : ℕ) × (first_of (unmarked marks from (count - from)) ≡ Some f) × Stepped s (write_of f (encode_node (fields_of node next) value) NewRecord) (Err h) t)

-- the links are written, where the device is able to take them
unfoldable pub Recorded : State → ℕ → List Node → List (List ℕ) → List ℕ → ℕ → Result ℕ Halt → State → Type 0
Recorded s count nodes row marks last r t = Able s count (length nodes) marks → Laid s.slots (links_for (open_slots marks count) nodes row) last r t
