-- The layouts lose nothing: what is laid out is read again, and what is read was laid out so.
use Rattle.std.specs.Prelude.{◌≡◌, ℕ, ◌^◌, ◌<◌, ◌≤◌, true, List, length, Some, slice_index}
use Rattle.layout.specs.declared.Head.{Head}
use Rattle.layout.specs.declared.NodeFields.{NodeFields}
use Rattle.tree.specs.Nodes.{is_node}
use Rattle.layout.specs.Records.{encode_head, head_of, encode_node, node_of, value_of}

-- the bytes of a slot
pub record IsSlot (bs : List ℕ) : Type 0 where
  pub long : length bs ≡ 64
  pub small : (k : ℕ) → slice_index bs k < 256

-- fields that a head of a tree of d levels can have
pub record HeadFits (d : ℕ) (h : Head) : Type 0 where
  pub first : h.first < 2 ^ 16
  pub issued : h.issued ≤ 2 ^ d
  pub word : h.issued < 2 ^ 32
  pub name : length h.name ≡ 16

-- a head comes back from its slot, and a slot that holds a head is that head laid out
pub record HeadTrip : Type 0 where
  pub back : (d : ℕ) (h : Head) → HeadFits d h → head_of d (encode_head d h) ≡ Some h
  pub forth : (d : ℕ) (bs : List ℕ) (h : Head) → IsSlot bs → head_of d bs ≡ Some h → (encode_head d h ≡ bs) × HeadFits d h

-- fields that a node of a tree of d levels can have
pub record NodeFits (d : ℕ) (x : NodeFields) : Type 0 where
  pub node : is_node d x.depth x.first ≡ true
  pub first : x.first < 2 ^ 16
  pub next : x.next < 2 ^ 16

pub record NodeTrip : Type 0 where
  pub back : (d : ℕ) (x : NodeFields) (v : List ℕ) → NodeFits d x → node_of d (encode_node x v) ≡ Some x
  pub value : (x : NodeFields) (v : List ℕ) → value_of (encode_node x v) ≡ v
  pub forth : (d : ℕ) (bs : List ℕ) (x : NodeFields) → IsSlot bs → node_of d bs ≡ Some x → (encode_node x (value_of bs) ≡ bs) × NodeFits d x
