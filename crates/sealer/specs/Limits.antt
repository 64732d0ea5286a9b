-- How long a plain can be.
use Rattle.std.specs.Prelude.{ℕ}
use Rattle.session.specs.Limits.{max_record}

-- the bytes of the longest plain: those of the longest session record
abbrev pub max_plain : ℕ
max_plain = max_record
