-- Which writes a call makes.
use Rattle.std.specs.Prelude.{ℕ, zero, suc, ◌+◌, ◌-◌, ◌<◌, Bool, false, cond, ◌||◌, List, [], ◌∷◌, ◌++◌, length, drop, ◌==◌, slice_index_or}
use Rattle.octets.specs.Buffers.{is_blank}
use Rattle.device.specs.Effects.{Slot, Slots, blank}
use Rattle.fault.specs.declared.Step.TheVariants.{Make, Head as HeadStep, NewRecord, Join, Erasure, Sweep}
use Rattle.layout.specs.declared.Head.{Head}
use Rattle.layout.specs.Records.{encode_head, encode_node, relinked, recounted}
use Rattle.tree.specs.Values.{Valued}
use Rattle.tree.specs.Cover.{In, Distinct}
use Rattle.chain.specs.Reading.{Link, slots_of}
use Rattle.chain.specs.Listing.{entry}
use Rattle.chain.specs.Sound.{last_slot}
use Rattle.calls.specs.Kits.{Kit, numbers_in}
use Rattle.steps.specs.OneStep.{Write}

-- ---- issuing: one write, of the head
abbrev pub issue_write : Slots → Head → Write
issue_write s h = record { slot = 0; bytes = recounted (h.issued + 1) (slice_index_or s 0 []); step = HeadStep }

-- ---- redeeming
-- a record that leads on to the index i
abbrev pub record_of : Link → ℕ → Slot
record_of x i = encode_node (record { depth = x.node.depth; first = x.node.first; next = i }) x.value

-- nodes with values, put into slots
abbrev pub links_in : List ℕ → List Valued → List Link
links_in [] xs = []
links_in (f ∷ fs) [] = []
links_in (f ∷ fs) (x ∷ xs) = record { slot = f; node = x.0; value = x.1 } ∷ links_in fs xs

-- the new records, each leading to the next and the last on to i, written from the last to the first
abbrev pub new_writes : List Link → ℕ → List Write
new_writes [] i = []
new_writes (x ∷ xs) i = new_writes xs i ++ (record { slot = x.slot; bytes = record_of x (entry xs i); step = NewRecord } ∷ [])

-- the predecessor, or the head, leads on to the index i
abbrev pub join_write : Slots → List Link → ℕ → Write
join_write s front i = record { slot = last_slot 0 front; bytes = relinked i (slice_index_or s (last_slot 0 front) []); step = Join }

abbrev pub erase_write : Link → Write
erase_write x = record { slot = x.slot; bytes = blank; step = Erasure }

-- in the place of the link x, between front and back, the new links
abbrev pub redeem_writes : Slots → List Link → Link → List Link → List Link → List Write
redeem_writes s front x back new = new_writes new (entry back 0) ++ (join_write s front (entry new (entry back 0)) ∷ erase_write x ∷ [])

-- slots that are free beside a chain: not the head's, not on the chain, no two the same
pub record FreeSlots (s : Slots) (xs : List Link) (fs : List ℕ) : Type 0 where
  pub above : (f : ℕ) → In f fs → 0 < f
  pub within : (f : ℕ) → In f fs → f < length s
  pub off : (f : ℕ) → In f fs → In f (slots_of xs) → ⊥
  pub apart : Distinct fs

-- how many slots are free beside a chain
abbrev pub free_count : Slots → List Link → ℕ
free_count s xs = length s - 1 - length xs

-- ---- making
abbrev pub blank_writes : ℕ → ℕ → List Write
blank_writes i zero = []
blank_writes i (suc n) = record { slot = i; bytes = blank; step = Make } ∷ blank_writes (suc i) n

abbrev pub root_record : List ℕ → Slot
root_record root = encode_node (record { depth = 0; first = 0; next = 0 }) root

abbrev pub first_head : Kit → List ℕ → Head
first_head k name = record { first = 1; issued = 0; name = name; numbers = numbers_in k }

-- zeros to every slot, then the root's record to slot 1, then the head
abbrev pub tree_writes : ℕ → Slots → List ℕ → Head → List Write
tree_writes d s root h =
    blank_writes 0 (length s) ++ (record { slot = 1; bytes = root_record root; step = Make } ∷ record { slot = 0; bytes = encode_head d h; step = Make } ∷ [])

abbrev pub make_writes : Kit → ℕ → Slots → List ℕ → List ℕ → List Write
make_writes k d s root name = tree_writes d s root (first_head k name)

-- ---- reopening
abbrev pub holds : List ℕ → ℕ → Bool
holds [] i = false
holds (p ∷ ps) i = p == i || holds ps i

-- zeros to every slot from i on that is not one of ps and not zero, in increasing order
abbrev pub sweep_from : ℕ → Slots → List ℕ → List Write
sweep_from i [] ps = []
sweep_from i (b ∷ bs) ps = cond (holds ps i || is_blank b) [] (record { slot = i; bytes = blank; step = Sweep } ∷ []) ++ sweep_from (suc i) bs ps

abbrev pub sweep_writes : Slots → List Link → List Write
sweep_writes s xs = sweep_from 1 (drop 1 s) (slots_of xs)
