-- The laws of marks, and one step along the slots without a mark.
use Rattle.std.proofs.Common.{◌≡◌, ℕ, zero, suc, ◌+◌, not, List, refl, arith}
use Rattle.std.specs.List.{filter, find, range_with_len}
use Rattle.std.proofs.lemmas.List.{get_or-replicate, get_or_past, get_or-set_same, get_or-set_other, length-set, length-replicate}
use Rattle.octets.specs.Buffers.{zeros}
use Rattle.marks.specs.Rows.{room_of, is_marked, with_mark, MarkLaws, unmarked, first_of}

pub mark_laws : MarkLaws
unfolding is_marked with_mark room_of
mark_laws = record {
  none = λ n i. grind (arith, get_or-replicate {A = ℕ} n i 0 0, get_or_past {X = ℕ} (zeros n) i 0, length-replicate {A = ℕ} n 0);
  same = λ row n i h l. grind (arith, get_or-set_same row i 1 0);
  other = λ row i k ne. rw (get_or-set_other row i k 1 0 ne) refl;
  long = λ row i. length-set row i 1;
}

-- the slots without a mark are those that a filter leaves
pub filtered : (row : List ℕ) (i n : ℕ) → filter (λ k. not (is_marked row k)) (range_with_len i n) ≡ unmarked row i n
filtered row i zero = refl
filtered row i (suc n) = grind (arith, filtered row (i + 1) n)

-- what a search along them finds
pub first_found : (row : List ℕ) (i n : ℕ) → find (λ k. not (is_marked row k)) (range_with_len i n) ≡ first_of (unmarked row i n)
first_found row i zero = refl
first_found row i (suc n) = grind (arith, first_found row (i + 1) n)
