-- What a sealer means, and what each promises of its meaning.
use Rattle.std.specs.Prelude.{◌≡◌, ℕ, ◌+◌, ◌<◌, ◌≤◌, List, length}
use Rattle.ticket.specs.Limits.{max_overhead, heading_length}
use Rattle.sealer.specs.Limits.{max_plain}

-- what a sealer means: the sealed bytes by key, heading and plain, how many bytes a sealing has beyond its plain, and the number
-- by which a tree names it
pub record SealerMeaning : Type 0 where
  pub sealing : List ℕ → List ℕ → List ℕ → List ℕ
  pub overhead : ℕ
  pub number : ℕ

-- a sealing is longer than its plain by the overhead, and plains with one sealing are one plain
pub record SealingLaws (m : SealerMeaning) : Type 0 where
  pub small : m.overhead ≤ max_overhead
  pub long : (key heading plain : List ℕ) → length key ≡ 32 → length heading ≡ heading_length → length plain ≤ max_plain → length (m.sealing key heading plain) ≡ length plain + m.overhead
  pub apart : (key heading plain other : List ℕ) → length key ≡ 32 → length heading ≡ heading_length → length plain ≤ max_plain → length other ≤ max_plain →
      m.sealing key heading plain ≡ m.sealing key heading other → plain ≡ other

-- what each sealer promises of its meaning
pub record LawfulSealer (m : SealerMeaning) : Type 0 where
  pub seals : SealingLaws m
  pub one_byte : m.number < 256
