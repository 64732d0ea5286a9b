-- What a puncture is given, and what it does.
use Rattle.std.specs.Prelude.{◌≡◌, ℕ, ◌-◌, ◌^◌, ◌<◌, ◌≤◌, true, List, [], ◌∷◌, ◌++◌, length, get_or, Ok, Err, Result, slice_index_or}
use Rattle.octets.specs.Buffers.{zeros}
use Rattle.device.specs.Effects.{Slots, State}
use Rattle.fault.specs.declared.Halt.{Halt}
use Rattle.fault.specs.declared.Step.TheVariants.{Join}
use Rattle.layout.specs.Records.{relinked}
use Rattle.tree.specs.declared.Node.{Node}
use Rattle.tree.specs.Nodes.{max_levels, root_node, Covers, Above}
use Rattle.tree.specs.Puncture.{siblings_from}
use Rattle.tree.specs.Values.{sibling_values}
use Rattle.generator.specs.Descent.{row_of}
use Rattle.marks.specs.Rows.{room_of}
use Rattle.chain.specs.declared.Found.{Found}
use Rattle.chain.specs.Reading.{Link, file_of, Sound}
use Rattle.chain.specs.Listing.{between, marked_all}
use Rattle.calls.specs.Kits.{Kit, numbers_in}
use Rattle.steps.specs.OneStep.{write_of, Stepped}
use Rattle.steps.specs.Writes.{Ran}
use Rattle.chain.specs.Sound.{last_slot}
use Rattle.calls.specs.Files.{redeem_writes, FreeSlots, free_count}
use Rattle.calls.specs.Calls.{new_links}

-- the file f stands in the slots; x, between front and back, is its record over n, and was found; the row holds the values of the
-- siblings on the way down to n; just the chain's slots are marked; and there are free slots for the siblings
pub record Given (k : Kit) (d : ℕ) (s : State) (count : ℕ) (found : Found) (n : ℕ) (row : List (List ℕ)) (marks : List ℕ) (f : Sound) (front : List Link) (x : Link) (back : List Link) : Type 0 where
  pub power : s.power ≡ true
  pub size : length s.slots ≡ count
  pub file : file_of d (numbers_in k) s.slots ≡ Ok f
  pub chain : f.1 ≡ front ++ (x ∷ back)
  pub finds : found ≡ between (last_slot 0 front) x back
  pub covers : Covers d x.node n
  pub kept : row ≡ row_of (sibling_values k.generator.expansion d x.node x.value n)
  pub wide : room_of count ≤ length marks
  pub marked : marks ≡ marked_all (zeros (length marks)) f.1
  pub room : d - x.node.depth ≤ free_count s.slots f.1

-- siblings take the place of x: the writes of a redemption, with some free slots for the siblings
pub record Puncturing (k : Kit) (d : ℕ) (s : Slots) (f : Sound) (front : List Link) (x : Link) (back : List Link) (n : ℕ) (r : Result (Unit {0}) Halt) (t : State) : Type 0 where
  pub taken : List ℕ
  pub free : FreeSlots s f.1 taken
  pub many : length taken ≡ d - x.node.depth
  pub ran : Ran s (redeem_writes s front x back (new_links k d x n taken)) r t

-- the siblings on the way from x down to n, which fit a row and whose first numbers fit records; or there is no way
abbrev pub SiblingsBelow : ℕ → Node → ℕ → Result (List Node) Halt → Type 0
SiblingsBelow d x n (Ok ys) = (length ys ≤ max_levels) × ((j : ℕ) → j < length ys → (get_or ys j root_node).first < 2 ^ d) × (ys ≡ siblings_from d x n)
SiblingsBelow d x n (Err h) = Above d x n → ⊥

-- ---- words that the check does not open, so it finds lemmas about a puncture by them
-- the record in the slot `before`, or the head, leads on to another index
unfoldable pub Joins : State → ℕ → ℕ → Result (Unit {0}) Halt → State → Type 0
Joins s before first r t = before < length s.slots → s.power ≡ true → Stepped s (write_of before (relinked first (slice_index_or s.slots before [])) Join) r t

-- the puncture, whatever file, record and row of marks the arguments belong to
unfoldable pub Punctures : ℕ → State → ℕ → Found → ℕ → List (List ℕ) → List ℕ → Result (Unit {0}) Halt → State → Type 0
Punctures d s count found n row marks r t = (k : Kit) (f : Sound) (front : List Link) (x : Link) (back : List Link) → Given k d s count found n row marks f front x back → Puncturing k d s.slots f front x back n r t
