-- Scratch that holds no key material, and how much it holds.
use Rattle.std.specs.Prelude.{◌≡◌, ℕ, []}
use Rattle.octets.specs.Buffers.{zeros}
use Rattle.generator.specs.Descent.{no_values, row_of}
use Rattle.scratch.specs.declared.Scratch.{Scratch}

-- a slot and a pad have 64 bytes, and the row of siblings a value for each level of any tree
abbrev pub slot_length : ℕ
slot_length = 64

pub record Clean (s : Scratch) : Type 0 where
  pub slot : s.slot ≡ zeros slot_length
  pub pad : s.pad ≡ zeros slot_length
  pub values : s.values ≡ no_values
  pub row : s.row ≡ row_of []
