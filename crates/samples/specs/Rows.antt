-- Rows of bytes: the one that a journal stands on, and a file that changes.
use Rattle.std.specs.Prelude.{ℕ, ◌+◌, ◌*◌, ◌/◌, cond, nat_lt, List, slice_set}

-- a slot's number in each of its bytes, but zeros in the first two slots
abbrev pub journal_byte : ℕ → ℕ
journal_byte k = cond (nat_lt k 128) 0 (k / 64)

-- the file after a change: another byte at a place of a slot
abbrev pub changed : List ℕ → ℕ × ℕ × ℕ → List ℕ
changed file c = slice_set file (c.0 * 64 + c.1) c.2
