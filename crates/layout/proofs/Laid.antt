-- The last part of a slot.
use Rattle.std.proofs.Common.{◌≡◌, ℕ, List, length, take, drop, arith}
use Rattle.std.proofs.lemmas.List.{take_all, length-drop}
use Rattle.layout.specs.Records.{value_of}

-- the value reaches to the end
pub value_whole : (s : List ℕ) → length s ≡ 64 → take 32 (drop 32 s) ≡ value_of s
unfolding value_of
value_whole s h = take_all 32 (drop 32 s) (simp length-drop (omega arith))
