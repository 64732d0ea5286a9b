-- Powers of two past 32 bits do not matter.
use Rattle.std.proofs.Common.{◌≡◌, ℕ, ◌*◌, ◌%◌, ◌^◌, ◌<◌, ◌≤◌, min, ltb, leb, mod-eq_of_lt, arith, pow_mono}
use Rattle.std.proofs.lemmas.Nat.{one_shl}
use Rattle.std.proofs.lemmas.Bool.{le-leb, lt-ltb}

-- 1 << min d 32
pub shifted_least : (d : ℕ) → 1 * 2 ^ min d 32 % 18446744073709551616 ≡ 2 ^ min d 32
shifted_least d = grind (arith, one_shl (min d 32) 64)

pub whole_leb : (n d : ℕ) → n < 2 ^ 32 → leb n (2 ^ d) ≡ leb n (2 ^ min d 32)
whole_leb n d l =
    let more : 32 ≤ d → 2 ^ 32 ≤ 2 ^ d = λ h. pow_mono h in
    grind (arith, more, le-leb n (2 ^ 32), le-leb n (2 ^ d))

pub whole_ltb : (n d : ℕ) → n < 2 ^ 32 → ltb n (2 ^ d) ≡ ltb n (2 ^ min d 32)
whole_ltb n d l =
    let more : 32 ≤ d → 2 ^ 32 ≤ 2 ^ d = λ h. pow_mono h in
    grind (arith, more, lt-ltb n (2 ^ 32), lt-ltb n (2 ^ d))

pub rest_is : (n d : ℕ) → n < 2 ^ 32 → n % 2 ^ d ≡ n % 2 ^ min d 32
rest_is n d l =
    let more : 32 ≤ d → 2 ^ 32 ≤ 2 ^ d = λ h. pow_mono h in
    let all : (m : ℕ) → n < m → n % m ≡ n = λ m h. mod-eq_of_lt h in
    grind (arith, more, all (2 ^ 32), all (2 ^ d))
