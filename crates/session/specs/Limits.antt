-- The numbers of a session's record. Each stands here and nowhere else.
use Rattle.std.specs.Prelude.{ℕ, ◌+◌}
use Rattle.session.specs.declared.Suite.{Suite}

-- the bytes of the shortest secret and of the longest
abbrev pub min_secret : ℕ
min_secret = 32

abbrev pub max_secret : ℕ
max_secret = 32

-- the bytes of the secret of a session under a suite
abbrev pub secret_length : Suite → ℕ
secret_length s = 32

-- the most bytes of a name
abbrev pub max_name : ℕ
max_name = 32

-- the longest lifetime, in seconds
abbrev pub max_lifetime : ℕ
max_lifetime = 604800

-- where the fields begin: the time of issue after the suite, then the lifetime, the age add, the early data limit and the secret
abbrev pub time_at : ℕ
time_at = 2

abbrev pub lifetime_at : ℕ
lifetime_at = time_at + 8

abbrev pub age_add_at : ℕ
age_add_at = lifetime_at + 4

abbrev pub early_data_at : ℕ
early_data_at = age_add_at + 4

abbrev pub secret_at : ℕ
secret_at = early_data_at + 4

-- where the name's length stands
abbrev pub name_at : Suite → ℕ
name_at s = secret_at + secret_length s

-- the bytes of the shortest record, which has no name
abbrev pub min_record : ℕ
min_record = secret_at + min_secret + 1

-- the bytes of the longest record
abbrev pub max_record : ℕ
max_record = secret_at + max_secret + 1 + max_name
