-- Laws of states and records.
use Rattle.std.specs.Prelude.{◌≡◌, ℕ, ◌+◌, ◌≤◌, true, List, length, is_ok, Ok, Err, Decides}
use Rattle.refusal.specs.declared.Refusal.TheVariants.{NotARecord}
use Rattle.session.specs.declared.SessionState.{SessionState}
use Rattle.session.specs.Limits.{name_at, min_record, max_record}
use Rattle.session.specs.Records.{Bytes, Typed, Fits, encode_of, decode_of, is_record, IsRecord, written_of}

pub record RecordLaws : Type 0 where
  -- a state's record reads back as that state
  pub back : (s : SessionState) → Typed s → Fits s → decode_of (encode_of s) ≡ Ok s
  -- what bytes hold has those bytes for its record
  pub forth : (b : List ℕ) (s : SessionState) → Bytes b → decode_of b ≡ Ok s → Typed s × Fits s × (encode_of s ≡ b)
  -- the test tells the records from all other bytes
  pub tells : (b : List ℕ) → Bytes b → Decides (is_record b) (IsRecord b)
  -- bytes are read exactly where the test passes
  pub read : (b : List ℕ) → is_ok (decode_of b) ≡ is_record b
  -- the length of a record
  pub long : (s : SessionState) → Typed s → Fits s → length (encode_of s) ≡ name_at s.suite + 1 + s.name_length
  -- and its bounds
  pub least : (b : List ℕ) → is_record b ≡ true → min_record ≤ length b
  pub most : (b : List ℕ) → is_record b ≡ true → length b ≤ max_record

-- the state with another lifetime
abbrev pub lasting : ℕ → SessionState → SessionState
lasting t s = record s { lifetime = t }

-- a lifetime of seven days passes, and one of a second more is refused, in reading and in writing
pub record LifetimeExamples : Type 0 where
  pub reads : (s : SessionState) → Typed s → Fits s → decode_of (encode_of (lasting 604800 s)) ≡ Ok (lasting 604800 s)
  pub refuses_reading : (s : SessionState) → Typed s → Fits s → decode_of (encode_of (lasting 604801 s)) ≡ Err NotARecord
  pub writes : (s : SessionState) (room : ℕ) → Typed s → Fits s → max_record ≤ room → is_ok (written_of (lasting 604800 s) room) ≡ true
  pub refuses_writing : (s : SessionState) (room : ℕ) → max_record ≤ room → written_of (lasting 604801 s) room ≡ Err NotARecord
