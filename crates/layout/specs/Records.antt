-- The head and the node records of a key file, byte by byte, for a tree of d levels.
use Rattle.std.specs.Prelude.{ℕ, ◌^◌, Bool, cond, ◌&&◌, List, ◌∷◌, ◌++◌, take, drop, Some, None, Option, ◌==◌, nat_le, slice_index}
use Rattle.octets.specs.Buffers.{zeros, is_blank}
use Rattle.octets.specs.Fields.{bytes_of, number_of}
use Rattle.layout.specs.declared.Head.{Head}
use Rattle.layout.specs.declared.NodeFields.{NodeFields}
use Rattle.tree.specs.declared.Node.{Node}
use Rattle.tree.specs.Nodes.{is_node}

-- the n bytes from a place on
abbrev pub part : ℕ → ℕ → List ℕ → List ℕ
part at n bs = take n (drop at bs)

-- ---- the head, field by field: 1 and the levels (a byte each), two zeros, the first index (2 bytes), how many numbers
-- are issued (4), the key name (16), the generator's number and the sealer's (a byte each), and zeros
unfoldable pub encode_head : ℕ → Head → List ℕ
encode_head d h = 1 ∷ d ∷ 0 ∷ 0 ∷ (bytes_of 2 h.first ++ (bytes_of 4 h.issued ++ (h.name ++ (h.numbers.generator ∷ h.numbers.sealer ∷ zeros 36))))

-- what stands in the fields of a head
abbrev pub head_fields : List ℕ → Head
head_fields bs = record {
  first = number_of (part 4 2 bs);
  issued = number_of (part 6 4 bs);
  name = part 10 16 bs;
  numbers = record { generator = slice_index bs 26; sealer = slice_index bs 27 };
}

-- laid out as a head: the first two bytes, the zeros, and no more numbers issued than the tree has
abbrev pub is_head : ℕ → List ℕ → Bool
is_head d bs = slice_index bs 0 == 1 && (slice_index bs 1 == d && (is_blank (part 2 2 bs) && (is_blank (part 28 36 bs) && nat_le (number_of (part 6 4 bs)) (2 ^ d))))

-- the head that 64 bytes are
unfoldable pub head_of : ℕ → List ℕ → Option Head
head_of d bs = cond (is_head d bs) (Some (head_fields bs)) None

-- ---- a node record, field by field: 2 and the depth (a byte each), the first number and the next index (2 bytes each),
-- 26 zeros, and the value (32)
unfoldable pub encode_node : NodeFields → List ℕ → List ℕ
encode_node x v = 2 ∷ x.depth ∷ (bytes_of 2 x.first ++ (bytes_of 2 x.next ++ (zeros 26 ++ v)))

-- the fields of a node's record that leads on to the index `next`
abbrev pub fields_of : Node → ℕ → NodeFields
fields_of x next = record { depth = x.depth; first = x.first; next = next }

abbrev pub node_fields : List ℕ → NodeFields
node_fields bs = record { depth = slice_index bs 1; first = number_of (part 2 2 bs); next = number_of (part 4 2 bs) }

-- the value that a node record holds
unfoldable pub value_of : List ℕ → List ℕ
value_of bs = drop 32 bs

-- laid out as a node of the tree
abbrev pub is_record : ℕ → List ℕ → Bool
is_record d bs = slice_index bs 0 == 2 && (is_blank (part 6 26 bs) && is_node d (slice_index bs 1) (number_of (part 2 2 bs)))

-- the node that 64 bytes are
unfoldable pub node_of : ℕ → List ℕ → Option NodeFields
node_of d bs = cond (is_record d bs) (Some (node_fields bs)) None

-- ---- writing over a part of a slot
-- the same slot leading on to the index i: the head's first index and a record's next index are its bytes 4 and 5
abbrev pub relinked : ℕ → List ℕ → List ℕ
relinked i bs = take 4 bs ++ (bytes_of 2 i ++ drop 6 bs)

-- the same head with n numbers issued, in its bytes 6 to 9
abbrev pub recounted : ℕ → List ℕ → List ℕ
recounted n bs = take 6 bs ++ (bytes_of 4 n ++ drop 10 bs)
