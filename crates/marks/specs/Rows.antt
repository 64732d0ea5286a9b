-- Rows of marks, one mark for each slot, in lent bytes.
use Rattle.std.specs.Prelude.{◌≡◌, ℕ, zero, suc, ◌<◌, ◌≤◌, Bool, true, false, not, List, [], ◌∷◌, length, Some, None, Option, ◌==◌, ◌≢◌, slice_index, slice_set}
use Rattle.octets.specs.Buffers.{zeros}

-- how many bytes the marks of n slots take
unfoldable pub room_of : ℕ → ℕ
room_of n = n

-- whether slot i is marked, and the row once it is
unfoldable pub is_marked : List ℕ → ℕ → Bool
is_marked row i = not (slice_index row i == 0)

unfoldable pub with_mark : List ℕ → ℕ → List ℕ
with_mark row i = slice_set row i 1

-- all that users of a row know of it
pub record MarkLaws : Type 0 where
  pub none : (n i : ℕ) → is_marked (zeros n) i ≡ false
  pub same : (row : List ℕ) (n i : ℕ) → room_of n ≤ length row → i < n → is_marked (with_mark row i) i ≡ true
  pub other : (row : List ℕ) (i k : ℕ) → (k ≢ i) → is_marked (with_mark row i) k ≡ is_marked row k
  pub long : (row : List ℕ) (i : ℕ) → length (with_mark row i) ≡ length row

-- a slot is listed unless it is marked
abbrev pub listed : Bool → ℕ → List ℕ → List ℕ
listed true i is = is
listed false i is = i ∷ is

-- of the n slots from i on, those without a mark, in increasing order
abbrev pub unmarked : List ℕ → ℕ → ℕ → List ℕ
unmarked row i zero = []
unmarked row i (suc n) = listed (is_marked row i) i (unmarked row (suc i) n)

abbrev pub first_of : List ℕ → Option ℕ
first_of [] = None
first_of (i ∷ is) = Some i
