-- Lists of bytes.
use Rattle.std.specs.Prelude.{ℕ, ◌<◌, List, slice_index}

-- each number of the list is a byte
abbrev pub Bytes : List ℕ → Type 0
Bytes v = (k : ℕ) → slice_index v k < 256

-- the length of a node's value
abbrev pub value_length : ℕ
value_length = 32
