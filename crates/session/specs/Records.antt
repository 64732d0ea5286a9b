-- A session's state and its record.
use Rattle.std.specs.Prelude.{◌≡◌, ℕ, ◌+◌, ◌-◌, ◌^◌, ◌<◌, ◌≤◌, Bool, cond, ◌&&◌, List, ◌∷◌, ◌++◌, length, take, drop, is_some, is_ok, Some, None, Ok, Err, Option, Result, ◌==◌, nat_le, nat_lt, slice_index}
use Rattle.octets.specs.Buffers.{zeros, filled, is_blank}
use Rattle.octets.specs.Fields.{bytes_of, number_of}
use Rattle.refusal.specs.declared.Refusal.{Refusal}
use Rattle.refusal.specs.declared.Refusal.TheVariants.{ShortBuffer, NotARecord}
use Rattle.session.specs.declared.Suite.{Suite}
use Rattle.session.specs.declared.SessionState.{SessionState}
use Rattle.session.specs.Limits.{secret_length, max_name, max_lifetime, time_at, lifetime_at, age_add_at, early_data_at, secret_at, name_at, min_record, max_record}
use Rattle.session.specs.Suites.{suite_number, suite_of}

-- every number of the list is a byte
abbrev pub Bytes : List ℕ → Type 0
Bytes b = (k : ℕ) → slice_index b k < 256

-- a lifetime of at least a second and at most the limit
abbrev pub lifetime_fits : ℕ → Bool
lifetime_fits t = nat_le 1 t && nat_le t max_lifetime

-- what the fields are by their types: numbers that fit their widths, and rows of their lengths
pub record Typed (s : SessionState) : Type 0 where
  pub issued_at : s.issued_at < 2 ^ 64
  pub lifetime : s.lifetime < 2 ^ 32
  pub age_add : s.age_add < 2 ^ 32
  pub early_data_limit : s.early_data_limit < 2 ^ 32
  pub secret : length s.secret ≡ secret_length s.suite
  pub name : length s.name ≡ max_name

-- the fields make a record: a lifetime within its bounds, and a name that is no longer than its limit, with zeros after it
pub record Fits (s : SessionState) : Type 0 where
  pub lived : 1 ≤ s.lifetime
  pub expires : s.lifetime ≤ max_lifetime
  pub named : s.name_length ≤ max_name
  pub after : drop s.name_length s.name ≡ zeros (max_name - s.name_length)

-- the same as a test
unfoldable pub fields_fit : SessionState → Bool
fields_fit s = lifetime_fits s.lifetime && (nat_le s.name_length max_name && is_blank (drop s.name_length s.name))

-- the record of a state
unfoldable pub encode_of : SessionState → List ℕ
encode_of s =
    bytes_of 2 (suite_number s.suite)
    ++ (bytes_of 8 s.issued_at
    ++ (bytes_of 4 s.lifetime
    ++ (bytes_of 4 s.age_add
    ++ (bytes_of 4 s.early_data_limit
    ++ (s.secret ++ (s.name_length ∷ take s.name_length s.name))))))

-- the bytes are the record of a state
pub record IsRecord (b : List ℕ) : Type 0 where
  pub state : SessionState
  pub typed : Typed state
  pub fits : Fits state
  pub laid : encode_of state ≡ b

-- the bytes after the suite are laid out as in a record: the lifetime and the name's length are within their bounds, and nothing follows the name
unfoldable pub laid_out : Suite → List ℕ → Bool
laid_out s b =
    nat_lt (name_at s) (length b)
    && (lifetime_fits (number_of (take 4 (drop lifetime_at b)))
    && (nat_le (slice_index b (name_at s)) max_name && length b == name_at s + 1 + slice_index b (name_at s)))

-- the suite, where one is given and the bytes are laid out as a record of it
abbrev pub where_laid_out : Option Suite → List ℕ → Option Suite
where_laid_out (Some s) b = cond (laid_out s b) (Some s) None
where_laid_out None b = None

-- the suite of a record; none where the bytes are no record
unfoldable pub record_suite : List ℕ → Option Suite
record_suite b = cond (nat_lt (length b) min_record) None (where_laid_out (suite_of (number_of (take 2 (drop 0 b)))) b)

-- whether the bytes are a record
unfoldable pub is_record : List ℕ → Bool
is_record b = is_some (record_suite b)

-- the state in a record of a suite
unfoldable pub read_of : Suite → List ℕ → SessionState
read_of s b = record {
  suite = s;
  issued_at = number_of (take 8 (drop time_at b));
  lifetime = number_of (take 4 (drop lifetime_at b));
  age_add = number_of (take 4 (drop age_add_at b));
  early_data_limit = number_of (take 4 (drop early_data_at b));
  secret = take (secret_length s) (drop secret_at b);
  name = filled (drop (name_at s + 1) b) max_name;
  name_length = slice_index b (name_at s);
}

abbrev pub read_under : Option Suite → List ℕ → Result SessionState Refusal
read_under (Some s) b = Ok (read_of s b)
read_under None b = Err NotARecord

-- the state that bytes hold, where they are a record
unfoldable pub decode_of : List ℕ → Result SessionState Refusal
decode_of b = read_under (record_suite b) b

-- what writing a state into a buffer of so many bytes answers: the record's length, or why it is declined
unfoldable pub written_of : SessionState → ℕ → Result ℕ Refusal
written_of s room = cond (nat_lt room max_record) (Err ShortBuffer) (cond (fields_fit s) (Ok (length (encode_of s))) (Err NotARecord))

-- what the buffer then holds
unfoldable pub buffer_of : SessionState → ℕ → List ℕ
buffer_of s room = cond (is_ok (written_of s room)) (filled (encode_of s) room) (zeros room)
