-- The numbers that SHA-256's words come from: primes, and the fractions of their roots (FIPS 180-4, sections 4.2.2
-- and 5.3.3).
use Rattle.std.specs.Prelude.{◌≡◌, ℕ, zero, suc, ◌+◌, ◌*◌, ◌%◌, ◌^◌, ◌<◌, ◌≤◌, Bool, true, false, cond, ◌==◌, nat_le}

-- none of the `left` numbers from d on divides n
unfoldable pub undivided : ℕ → ℕ → ℕ → Bool
undivided n d zero = true
undivided n d (suc left) = cond (n % d == 0) false (undivided n (d + 1) left)

-- n is a prime: none of 2 .. n - 1 divides it
unfoldable pub is_prime : ℕ → Bool
is_prime zero = false
is_prime (suc zero) = false
is_prime (suc (suc m)) = undivided (m + 2) 2 m

-- the first prime among the `left` numbers from n on
unfoldable pub prime_from : ℕ → ℕ → ℕ
prime_from n zero = 0
prime_from n (suc left) = cond (is_prime n) n (prime_from (n + 1) left)

-- the k-th prime after the prime p; the next one is among the p numbers after p
unfoldable pub prime_after : ℕ → ℕ → ℕ
prime_after p zero = p
prime_after p (suc k) = prime_after (prime_from (p + 1) p) k

-- the k-th prime, counted from 0
unfoldable pub prime_of : ℕ → ℕ
prime_of k = prime_after 2 k

-- the whole e-th root of n, found from r on bit by bit, bit `bits` - 1 first
unfoldable pub root_from : ℕ → ℕ → ℕ → ℕ → ℕ
root_from e n r zero = r
root_from e n r (suc b) = root_from e n (cond (nat_le ((r + 2 ^ b) ^ e) n) (r + 2 ^ b) r) b

-- the first 32 bits of the fraction of the e-th root of q, for a root below 16
unfoldable pub fraction : ℕ → ℕ → ℕ
fraction e q = root_from e (q * 2 ^ (32 * e)) 0 36 % 2 ^ 32

-- the rule of such a fraction: it is the whole e-th root of q * 2 ^ (32 * e), modulo 2 ^ 32
pub record Rooted (e q x : ℕ) : Type 0 where
  pub root : ℕ
  pub low : root ^ e ≤ q * 2 ^ (32 * e)
  pub high : q * 2 ^ (32 * e) < (root + 1) ^ e
  pub is : x ≡ root % 2 ^ 32
