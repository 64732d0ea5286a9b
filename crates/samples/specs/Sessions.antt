-- The sample sessions, and the record of a state as the programs hold it.
use Rattle.std.specs.Prelude.{ℕ, cond, min, List, length, take, replicate, Option, Some, None}
use Rattle.octets.specs.Buffers.{filled}
use Rattle.session.specs.declared.Suite.TheVariants.{Aes128GcmSha256}
use Rattle.session.specs.declared.SessionState.{SessionState}
use Rattle.session.specs.Limits.{max_secret, max_name, max_lifetime}
use Rattle.session.specs.Records.{fields_fit, encode_of}
use Rattle.samples.specs.declared.Bytes.{Bytes}

-- the session by a name, of which as much is taken as a state holds, with a mark
abbrev pub session_of : List ℕ → ℕ → SessionState
session_of name mark = record {
  suite = Aes128GcmSha256;
  issued_at = 1700000000;
  lifetime = max_lifetime;
  age_add = mark;
  early_data_limit = 16384;
  secret = replicate max_secret mark;
  name = filled (take max_name name) max_name;
  name_length = min (length name) max_name;
}

-- the record of a state from the start of a row of 160 bytes; none where its fields make none
abbrev pub recorded : SessionState → Option Bytes
recorded s = cond (fields_fit s) (Some (record { row = filled (encode_of s) 160; length = length (encode_of s) })) None
