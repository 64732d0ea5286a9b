-- For a loop that walks down and lists the siblings, with h levels to go.
use Rattle.std.proofs.Common.{◌≡◌, ℕ, zero, suc, ◌+◌, ◌-◌, ◌*◌, ◌^◌, ◌<◌, ltb, arith}
use Rattle.tree.specs.Puncture.{turn, flank, siblings_on}

pub siblings_more : (e h p n : ℕ) → 0 < h → let m = p + 2 ^ (h - 1) in siblings_on e h p n ≡ flank (ltb n m) (e + 1) p m (siblings_on (e + 1) (h - 1) (turn (ltb n m) p m) n)
siblings_more e zero p n l = absurd (omega arith)
siblings_more e (suc k) p n l = grind arith

-- a width in halves
pub two_halves : (h : ℕ) → 0 < h → 2 ^ h ≡ 2 * 2 ^ (h - 1)
two_halves zero l = absurd (omega arith)
two_halves (suc k) l = grind arith
