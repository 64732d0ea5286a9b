-- What a file that is read is, in the words of the tree; and a file that is laid out as the cover of the spent numbers is read as that.
use Rattle.std.specs.Prelude.{◌≡◌, ℕ, ◌+◌, ◌-◌, ◌^◌, ◌<◌, ◌≤◌, true, ◌⊎◌, ◌↔◌, List, [], ◌∷◌, ◌++◌, map, length, get_or, is_some, Some, None, Option, Ok, Err, slice_index_or}
use Rattle.octets.specs.Buffers.{zeros}
use Rattle.refusal.specs.declared.Refusal.{Refusal}
use Rattle.refusal.specs.declared.Refusal.TheVariants.{BadHead, BadLink, Uncovered}
use Rattle.fault.specs.declared.Halt.{Halt}
use Rattle.fault.specs.Faults.{placed}
use Rattle.device.specs.Effects.{Slots}
use Rattle.layout.specs.declared.Head.{Head}
use Rattle.layout.specs.declared.Numbers.{Numbers}
use Rattle.layout.specs.Records.{head_of, encode_head, node_fields, node_of, fields_of, encode_node}
use Rattle.layout.specs.Trips.{HeadFits, NodeFits}
use Rattle.marks.specs.Rows.{room_of, unmarked}
use Rattle.tree.specs.declared.Node.{Node}
use Rattle.tree.specs.Nodes.{IsNode, Covers}
use Rattle.tree.specs.Cover.{In, Ordered, Reached, Distinct, cover}
use Rattle.chain.specs.Reading.{Link, node_in, link_at, end_of, may_follow, slots_of, file_of}
use Rattle.chain.specs.declared.Found.{Found}
use Rattle.chain.specs.Listing.{entry, between, find_in, marked_all}

-- the nodes of the chain, in order
abbrev pub nodes_of : List Link → List Node
nodes_of xs = map (λ x. x.node) xs

-- the links xs stand in the slots s, one leading on to the next, from the index i on, after a record `before` that ends at `from`
abbrev pub Chained : ℕ → Slots → ℕ → Option Node → ℕ → List Link → Type 0
Chained d s from before i [] = i ≡ 0
Chained d s from before i (x ∷ xs) =
    (0 < i) × (i < length s) × (link_at s i ≡ x) × (is_some (node_of d (slice_index_or s i [])) ≡ true) × (may_follow d from before (node_in (slice_index_or s i [])) ≡ true)
    × Chained d s (end_of d (node_in (slice_index_or s i []))) (Some (node_in (slice_index_or s i []))) (node_fields (slice_index_or s i [])).next xs

-- the number n is the lowest of those from m on that lie under no node of the list, in a tree of d levels
pub record Lowest (d m : ℕ) (xs : List Node) (n : ℕ) : Type 0 where
  pub from : m ≤ n
  pub number : n < 2 ^ d
  pub bare : Reached d xs n → ⊥
  pub below : (k : ℕ) → m ≤ k → k < n → Reached d xs k

-- a file with the head h and the chain xs, to a server with these numbers
pub record SoundFile (d : ℕ) (numbers : Numbers) (s : Slots) (h : Head) (xs : List Link) : Type 0 where
  pub head : head_of d (slice_index_or s 0 []) ≡ Some h
  pub named : h.numbers ≡ numbers
  pub chained : Chained d s 0 None h.first xs
  pub nodes : (x : Node) → In x (nodes_of xs) → IsNode d x
  pub ordered : Ordered d (nodes_of xs)
  pub slots : (i : ℕ) → In i (slots_of xs) → (0 < i) × (i < length s)
  pub distinct : Distinct (slots_of xs)
  pub unissued : (n : ℕ) → h.issued ≤ n → n < 2 ^ d → Reached d (nodes_of xs) n

-- a file that lacks the number n, and no lower one
pub record Bare (d : ℕ) (s : Slots) (n : ℕ) : Type 0 where
  pub head : Head
  pub links : List Link
  pub read : head_of d (slice_index_or s 0 []) ≡ Some head
  pub chained : Chained d s 0 None head.first links
  pub lowest : Lowest d head.issued (nodes_of links) n

-- what is told of a file that is at fault
abbrev pub IsFileFault : Refusal → Type 0
IsFileFault w = (w ≡ BadHead) ⊎ (w ≡ BadLink) ⊎ (w ≡ Uncovered)

-- ---- a file as it is laid out
pub record Stands (d : ℕ) (s : Slots) (x : Link) (next : ℕ) : Type 0 where
  pub above : 0 < x.slot
  pub below : x.slot < length s
  pub bytes : get_or s x.slot [] ≡ encode_node (fields_of x.node next) x.value
  pub fits : NodeFits d (fields_of x.node next)

abbrev pub Linked : ℕ → Slots → List Link → Type 0
Linked d s [] = Unit {0}
Linked d s (x ∷ xs) = Stands d s x (entry xs 0) × Linked d s xs

pub record Laid (d : ℕ) (s : Slots) (h : Head) (xs : List Link) : Type 0 where
  pub bytes : get_or s 0 [] ≡ encode_head d h
  pub fits : HeadFits d h
  pub first : h.first ≡ entry xs 0
  pub links : Linked d s xs

-- ---- the record that covers a number
-- the slot of the last record, b where there is none
abbrev pub last_slot : ℕ → List Link → ℕ
last_slot b [] = b
last_slot b (x ∷ xs) = last_slot x.slot xs

-- f is the record of the list that covers n, between its neighbours; the slot b stands before the list
pub record FoundAt (d n b : ℕ) (xs : List Link) (f : Found) : Type 0 where
  pub front : List Link
  pub link : Link
  pub back : List Link
  pub split : xs ≡ front ++ (link ∷ back)
  pub is : f ≡ between (last_slot b front) link back
  pub covers : Covers d link.node n

-- ---- what is proved
pub record FileLaws : Type 0 where
  -- what a sound file is, and nothing else is one
  pub exact : (d : ℕ) (numbers : Numbers) (s : Slots) (h : Head) (xs : List Link) → file_of d numbers s ≡ Ok (h, xs) ↔ SoundFile d numbers s h xs
  -- a file that is not read has one of three faults
  pub faults : (d : ℕ) (numbers : Numbers) (s : Slots) (h : Halt) → file_of d numbers s ≡ Err h → IsFileFault h.refusal
  -- the number that is told where one lies under no record
  pub lacking : (d : ℕ) (numbers : Numbers) (s : Slots) (n : ℕ) → file_of d numbers s ≡ Err (placed Uncovered n) → Bare d s n
  -- a chain laid out as the cover of numbers that are all issued is read back, with its head
  pub back : (d : ℕ) (s : Slots) (h : Head) (xs : List Link) (spent : List ℕ) → Laid d s h xs → nodes_of xs ≡ cover d spent → ((n : ℕ) → In n spent → n < h.issued) →
      file_of d h.numbers s ≡ Ok (h, xs)
  -- the record that is told covers the number asked for, and where none is told none covers it
  pub found : (d n b : ℕ) (xs : List Link) (f : Found) → find_in d n b xs ≡ Some f → FoundAt d n b xs f
  pub missing : (d n b : ℕ) (xs : List Link) → find_in d n b xs ≡ None → Reached d (nodes_of xs) n → ⊥

-- ---- the free slots, by the marks that a reading leaves: the slots other than 0 off the chain, in increasing order
abbrev pub free_in : ℕ → ℕ → List ℕ → List ℕ
free_in from count row = unmarked row from (count - from)

abbrev pub FreeAre : Type 0
FreeAre = (m count from : ℕ) (xs : List Link) (i : ℕ) → room_of count ≤ m →
    In i (free_in from count (marked_all (zeros m) xs)) ↔ ((from ≤ i) × (i < count) × (In i (slots_of xs) → ⊥))

-- there are as many as there are slots other than 0, less the records of the chain
abbrev pub FreeCount : Type 0
FreeCount = (m count : ℕ) (xs : List Link) → room_of count ≤ m → ((j : ℕ) → In j (slots_of xs) → (0 < j) × (j < count)) → Distinct (slots_of xs) →
    length (free_in 1 count (marked_all (zeros m) xs)) + length xs ≡ count - 1
