-- Big-endian numbers: the n bytes of v, and the number that bytes write.
use Rattle.std.specs.Prelude.{◌≡◌, ℕ, zero, suc, ◌/◌, ◌%◌, ◌^◌, ◌<◌, List, [], ◌∷◌, ◌++◌, length, slice_index}
use Rattle.std.specs.Int.Digits.{number_from_digits}

-- the n lowest bytes of v, the highest of them first
unfoldable pub bytes_of : ℕ → ℕ → List ℕ
bytes_of zero v = []
bytes_of (suc n) v = bytes_of n (v / 256) ++ v % 256 ∷ []

-- the number whose digits to the base 256 are the bytes
unfoldable pub number_of : List ℕ → ℕ
number_of bs = number_from_digits 256 bs

pub record FieldLaws : Type 0 where
  pub long : (n v : ℕ) → length (bytes_of n v) ≡ n
  pub back : (n v : ℕ) → v < 256 ^ n → number_of (bytes_of n v) ≡ v
  pub forth : (n : ℕ) (bs : List ℕ) → length bs ≡ n → ((k : ℕ) → slice_index bs k < 256) → bytes_of n (number_of bs) ≡ bs
  pub small : (n v k : ℕ) → slice_index (bytes_of n v) k < 256
