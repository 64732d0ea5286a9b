-- A part of a row: its bytes, and what follows it.
use Rattle.std.proofs.Common.{◌≡◌, ℕ, ◌+◌, ◌<◌, List, ◌++◌, get_or, take, drop, arith}
use Rattle.std.proofs.lemmas.List.{drop-drop, take-append-drop, get_or-take, get_or-drop, get_or_past, length-take}

pub part_small : (at n : ℕ) (bs : List ℕ) → ((k : ℕ) → get_or bs k 0 < 256) → (k : ℕ) → get_or (take n (drop at bs)) k 0 < 256
part_small at n bs small k = grind (arith, get_or-take n (drop at bs) k 0, get_or-drop at bs k 0, small (at + k), get_or_past (take n (drop at bs)) k 0, length-take n (drop at bs))

pub part_rest : (at n : ℕ) (bs : List ℕ) → take n (drop at bs) ++ drop (at + n) bs ≡ drop at bs
part_rest at n bs = rw (← drop-drop n at bs) (take-append-drop n (drop at bs))
