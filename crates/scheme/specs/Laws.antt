-- Laws of covering and sealing, for every keystream and every tag of a fixed length.
use Rattle.std.specs.Prelude.{◌≡◌, ℕ, ◌+◌, List, length}
use Rattle.scheme.specs.Schemes.{SchemeMeaning}
use Rattle.scheme.specs.Covering.{covered, sealing_of}

pub record CoveringLaws : Type 0 where
  -- a covered plain is as long as the plain
  pub even : (block : ℕ → List ℕ) (size : ℕ) (plain : List ℕ) → length (covered block size plain) ≡ length plain
  -- covered twice, a plain is itself again
  pub twice : (block : ℕ → List ℕ) (size : ℕ) (plain : List ℕ) → covered block size (covered block size plain) ≡ plain
  -- a sealing is longer than its plain by the tag
  pub long : (m : SchemeMeaning) (key heading : List ℕ) → ((c : List ℕ) → length (m.tag key heading c) ≡ m.extra) → (plain : List ℕ) → length (sealing_of m key heading plain) ≡ length plain + m.extra
  -- plains with one sealing are one plain
  pub apart : (m : SchemeMeaning) (key heading : List ℕ) → ((c : List ℕ) → length (m.tag key heading c) ≡ m.extra) → (plain other : List ℕ) → sealing_of m key heading plain ≡ sealing_of m key heading other → plain ≡ other
