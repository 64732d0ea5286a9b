-- The records of a file, along its chain.
use Rattle.std.specs.Prelude.{◌≡◌, ℕ, zero, suc, cond, true, List, [], ◌∷◌, length, Option, Some, None, Ok, nat_lt, slice_index_or}
use Rattle.device.specs.Effects.{State}
use Rattle.layout.specs.declared.Head.{Head}
use Rattle.layout.specs.declared.Numbers.{Numbers}
use Rattle.layout.specs.declared.NodeFields.{NodeFields}
use Rattle.layout.specs.Records.{node_of, fields_of}
use Rattle.chain.specs.Reading.{Link, file_of}
use Rattle.chain.specs.Listing.{entry}

-- the record that a slot holds, where it can be read and holds one
abbrev pub record_in : ℕ → State → ℕ → Option NodeFields
record_in d s i = cond (nat_lt i (length s.slots)) (cond s.power (node_of d (slice_index_or s.slots i [])) None) None

-- what follows a record: what its next slot leads to; nothing after one that cannot be read
abbrev pub after : Option NodeFields → (ℕ → List (ℕ × Option NodeFields)) → List (ℕ × Option NodeFields)
after (Some fields) rest = rest fields.next
after None rest = []

-- the records of a chain of n from a slot on, each with its slot
abbrev pub chain_from : ℕ → State → ℕ → ℕ → List (ℕ × Option NodeFields)
chain_from d s i zero = []
chain_from d s i (suc n) = (i, record_in d s i) ∷ after (record_in d s i) (λ next. chain_from d s next n)

-- ---- a file that is read
-- the records of a chain: of each its slot, its node, and the slot that it leads on to
abbrev pub listed : List Link → List (ℕ × Option NodeFields)
listed [] = []
listed (x ∷ xs) = (x.slot, Some (fields_of x.node (entry xs 0))) ∷ listed xs

-- with the power on, the records from the head on are the chain's, all of them and no others
abbrev pub ListsChain : Type 0
ListsChain = (d : ℕ) (numbers : Numbers) (s : State) (h : Head) (xs : List Link) → s.power ≡ true → file_of d numbers s.slots ≡ Ok (h, xs) →
    chain_from d s h.first (length xs) ≡ listed xs
