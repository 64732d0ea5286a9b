-- Reading a key file: the head, then the chain of node records that begins at the head's first index.
use Rattle.std.specs.Prelude.{ℕ, zero, suc, ◌+◌, ◌*◌, ◌%◌, ◌^◌, max, Bool, false, cond, not, ◌&&◌, List, [], ◌∷◌, map, length, is_some, Some, None, Option, Ok, Err, Result, ◌==◌, nat_le, nat_lt, slice_index_or}
use Rattle.refusal.specs.declared.Refusal.TheVariants.{BadHead, BadLink, Uncovered}
use Rattle.fault.specs.declared.Halt.{Halt}
use Rattle.fault.specs.Faults.{plainly, placed}
use Rattle.device.specs.Effects.{Slots}
use Rattle.layout.specs.declared.Head.{Head}
use Rattle.layout.specs.declared.Numbers.{Numbers}
use Rattle.layout.specs.Records.{head_of, node_of, node_fields, value_of}
use Rattle.tree.specs.declared.Node.{Node}
use Rattle.tree.specs.Nodes.{node_at, width_of}
use Rattle.tree.specs.Values.{Valued}

-- a record of the chain: the slot that it stands in, its node, and the node's value
pub record Link : Type 0 where
  pub slot : ℕ
  pub node : Node
  pub value : List ℕ

-- the chain as depths, first numbers and values, without the slots
abbrev pub valued_of : Link → Valued
valued_of x = (x.node, x.value)

-- the number after the last one that a node covers
abbrev pub end_of : ℕ → Node → ℕ
end_of d x = x.first + width_of d x.depth

-- y follows x as its sibling: both are children of one node, x the left one
abbrev pub is_twin : ℕ → Node → Node → Bool
is_twin d x y = x.depth == y.depth && (end_of d x == y.first && x.first % (2 * width_of d x.depth) == 0)

abbrev pub after_twin : ℕ → Option Node → Node → Bool
after_twin d None y = false
after_twin d (Some x) y = is_twin d x y

-- a node may come next: it does not begin before its predecessor's end, and is not its sibling
abbrev pub may_follow : ℕ → ℕ → Option Node → Node → Bool
may_follow d from before y = nat_le from y.first && not (after_twin d before y)

abbrev pub consed : Link → Result (List Link) Halt → Result (List Link) Halt
consed x (Ok xs) = Ok (x ∷ xs)
consed x (Err f) = Err f

-- the node that a slot's bytes name, whether or not they are a record
abbrev pub node_in : List ℕ → Node
node_in bs = node_at (node_fields bs).depth (node_fields bs).first

abbrev pub link_at : Slots → ℕ → Link
link_at s i = record { slot = i; node = node_in (slice_index_or s i []); value = value_of (slice_index_or s i []) }

-- The records from the index i on, at most `fuel`, after the record `before` that ends at `from`; `last` is the slot read last. A fault
-- in the chain is told with the slot that was read last.
-- Each record ends after its predecessor, so in a tree of d levels the fuel 2 ^ d + 1 is never used up.
unfoldable pub walk : ℕ → ℕ → Slots → ℕ → Option Node → ℕ → ℕ → Result (List Link) Halt
walk d fuel s from before last zero = Ok []
walk d zero s from before last (suc i) = Err (placed BadLink last)
walk d (suc fuel) s from before last (suc i) =
    cond (nat_lt (suc i) (length s))
    (cond (is_some (node_of d (slice_index_or s (suc i) [])) && may_follow d from before (node_in (slice_index_or s (suc i) [])))
    (consed (link_at s (suc i)) (walk d fuel s (end_of d (node_in (slice_index_or s (suc i) []))) (Some (node_in (slice_index_or s (suc i) []))) (suc i) (node_fields (slice_index_or s (suc i) [])).next))
    (Err (placed BadLink (suc i))))
    (Err (placed BadLink last))

-- the lowest number from m on that lies under none of the links, which stand in increasing order; 2 ^ d where there is none
abbrev pub lowest_from : ℕ → ℕ → List Link → ℕ
lowest_from d m [] = m
lowest_from d m (x ∷ xs) = lowest_from d (cond (nat_le x.node.first m) (max m (end_of d x.node)) m) xs

-- what reading a file gives, where nothing is at fault: the head and the chain
abbrev pub Sound : Type 0
Sound = Head × List Link

abbrev pub judged : ℕ → Head → Result (List Link) Halt → Result Sound Halt
judged d h (Ok xs) = cond (nat_lt (lowest_from d h.issued xs) (2 ^ d)) (Err (placed Uncovered (lowest_from d h.issued xs))) (Ok (h, xs))
judged d h (Err f) = Err f

-- the chain behind a head
abbrev pub chain_of : ℕ → Head → Slots → Result Sound Halt
chain_of d h s = judged d h (walk d (suc (2 ^ d)) s 0 None 0 h.first)

-- whether a head names these numbers
abbrev pub bears : Head → Numbers → Bool
bears h numbers = h.numbers.generator == numbers.generator && h.numbers.sealer == numbers.sealer

abbrev pub headed : ℕ → Numbers → Slots → Option Head → Result Sound Halt
headed d numbers s None = Err (plainly BadHead)
headed d numbers s (Some h) = cond (bears h numbers) (chain_of d h s) (Err (plainly BadHead))

-- the file in the slots s, of a tree of d levels, to a server whose generator and sealer have these numbers: the first fault, or the
-- head and the chain
unfoldable pub file_of : ℕ → Numbers → Slots → Result Sound Halt
file_of d numbers s = headed d numbers s (head_of d (slice_index_or s 0 []))

-- the slots of the chain, and whether a slot is free: not the head's and not on the chain
abbrev pub slots_of : List Link → List ℕ
slots_of xs = map (λ x. x.slot) xs
