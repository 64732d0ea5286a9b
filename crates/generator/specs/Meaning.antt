-- What a generator means, and what each one promises of it.
use Rattle.std.specs.Prelude.{◌≡◌, ℕ, ◌<◌, List, length}
use Rattle.tree.specs.Values.{Expansion}
use Rattle.generator.specs.Bytes.{Bytes, value_length}

-- what a generator means: how the values of a node's children follow from its own, and the number by which a key file knows it
pub record GeneratorMeaning : Type 0 where
  pub expansion : Expansion
  pub number : ℕ

-- both children's values have the length of a value where their parent's has
pub record KeepsLength (e : Expansion) : Type 0 where
  pub on_left : (v : List ℕ) → length v ≡ value_length → length (e.left v) ≡ value_length
  pub on_right : (v : List ℕ) → length v ≡ value_length → length (e.right v) ≡ value_length

-- what each generator promises of its meaning: lengths are kept, its number is a byte, and a value of bytes makes values of bytes
pub record LawfulGenerator (m : GeneratorMeaning) : Type 0 where
  pub lengths : KeepsLength m.expansion
  pub one_byte : m.number < 256
  pub bytes_left : (v : List ℕ) → Bytes v → Bytes (m.expansion.left v)
  pub bytes_right : (v : List ℕ) → Bytes v → Bytes (m.expansion.right v)
