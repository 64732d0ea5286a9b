-- What a scheme means, and what each promises of its meaning.
use Rattle.std.specs.Prelude.{◌≡◌, ℕ, ◌<◌, ◌≤◌, List, length}
use Rattle.ticket.specs.Limits.{max_overhead}

-- what a scheme means: the keystream's blocks by key and place, the bytes of a block, the tag by key, heading and covered plain,
-- and the bytes of a tag
pub record SchemeMeaning : Type 0 where
  pub block : List ℕ → ℕ → List ℕ
  pub size : ℕ
  pub tag : List ℕ → List ℕ → List ℕ → List ℕ
  pub extra : ℕ

-- what each scheme promises of its meaning
pub record LawfulScheme (m : SchemeMeaning) : Type 0 where
  pub some : 0 < m.size
  pub held : m.size ≤ 64
  pub limited : m.extra ≤ max_overhead
  pub whole : (key : List ℕ) (index : ℕ) → length (m.block key index) ≡ m.size
  pub tagged : (key heading bytes : List ℕ) → length (m.tag key heading bytes) ≡ m.extra
