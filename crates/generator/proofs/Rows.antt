-- The values of the siblings on a way with h turns to make.
use Rattle.std.proofs.Common.{◌≡◌, ℕ, zero, suc, ◌-◌, ◌<◌, List, arith}
use Rattle.tree.specs.Values.{Expansion, bit, step_of, flanked, besides}

pub besides_more : (g : Expansion) (v : List ℕ) (n h : ℕ) → 0 < h → besides g h n v ≡ flanked (bit (h - 1) n) (g.left v) (g.right v) (besides g (h - 1) n (step_of g (bit (h - 1) n) v))
besides_more g v n zero l = absurd (omega arith)
besides_more g v n (suc k) l = let z : suc k - 1 ≡ k = omega arith in rw z
