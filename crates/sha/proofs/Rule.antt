-- The rule of the two tables, tested at all entries along the primes.
use Rattle.std.proofs.Common.{◌≡◌, ℕ, zero, suc, ◌+◌, ◌*◌, ◌^◌, ◌<◌, Bool, true, ◌&&◌, eqb, ltb, leb, List, [], ◌∷◌, length, get_or, refl, le_of_suc-le-suc, not-suc-le-zero}
use Rattle.std.proofs.lemmas.Bool.{and_parts, eqb-true, leb-true, ltb-true}
use Rattle.std.proofs.lemmas.List.FromFn.{fill_by_all}
use Rattle.sha.specs.Roots.{undivided, is_prime, prime_from, prime_after, prime_of, root_from, fraction, Rooted}
use Rattle.sha.specs.Digest.{round_word, start_word, start_words}

abbrev pub round_table : List ℕ
round_table = 0x428a2f98 ∷ 0x71374491 ∷ 0xb5c0fbcf ∷ 0xe9b5dba5 ∷ 0x3956c25b ∷ 0x59f111f1 ∷ 0x923f82a4 ∷ 0xab1c5ed5 ∷ 0xd807aa98 ∷ 0x12835b01 ∷ 0x243185be ∷ 0x550c7dc3 ∷ 0x72be5d74 ∷ 0x80deb1fe ∷ 0x9bdc06a7 ∷ 0xc19bf174 ∷ 0xe49b69c1 ∷ 0xefbe4786 ∷ 0x0fc19dc6 ∷ 0x240ca1cc ∷ 0x2de92c6f ∷ 0x4a7484aa ∷ 0x5cb0a9dc ∷ 0x76f988da ∷ 0x983e5152 ∷ 0xa831c66d ∷ 0xb00327c8 ∷ 0xbf597fc7 ∷ 0xc6e00bf3 ∷ 0xd5a79147 ∷ 0x06ca6351 ∷ 0x14292967 ∷ 0x27b70a85 ∷ 0x2e1b2138 ∷ 0x4d2c6dfc ∷ 0x53380d13 ∷ 0x650a7354 ∷ 0x766a0abb ∷ 0x81c2c92e ∷ 0x92722c85 ∷ 0xa2bfe8a1 ∷ 0xa81a664b ∷ 0xc24b8b70 ∷ 0xc76c51a3 ∷ 0xd192e819 ∷ 0xd6990624 ∷ 0xf40e3585 ∷ 0x106aa070 ∷ 0x19a4c116 ∷ 0x1e376c08 ∷ 0x2748774c ∷ 0x34b0bcb5 ∷ 0x391c0cb3 ∷ 0x4ed8aa4a ∷ 0x5b9cca4f ∷ 0x682e6ff3 ∷ 0x748f82ee ∷ 0x78a5636f ∷ 0x84c87814 ∷ 0x8cc70208 ∷ 0x90befffa ∷ 0xa4506ceb ∷ 0xbef9a3f7 ∷ 0xc67178f2 ∷ []

abbrev pub start_table : List ℕ
start_table = 0x6a09e667 ∷ 0xbb67ae85 ∷ 0x3c6ef372 ∷ 0xa54ff53a ∷ 0x510e527f ∷ 0x9b05688c ∷ 0x1f83d9ab ∷ 0x5be0cd19 ∷ []

root : ℕ → ℕ → ℕ
root e q = root_from e (q * 2 ^ (32 * e)) 0 36

-- each x is the fraction of the e-th root of its prime, from p on, and that root is a whole root
walk : ℕ → ℕ → List ℕ → Bool
walk e p [] = true
walk e p (x ∷ xs) =
    (eqb x (fraction e p) && (leb (root e p ^ e) (p * 2 ^ (32 * e)) && ltb (p * 2 ^ (32 * e)) ((root e p + 1) ^ e))) && walk e (prime_from (p + 1) p) xs

from : (e p : ℕ) (xs : List ℕ) → walk e p xs ≡ true → (k : ℕ) → k < length xs → (get_or xs k 0 ≡ fraction e (prime_after p k)) × Rooted e (prime_after p k) (get_or xs k 0)
unfolding walk prime_after root fraction
from e p [] t k h = absurd (not-suc-le-zero h)
from e p (x ∷ xs) t zero h =
    let a = and_parts _ _ (and_parts _ _ t).0 in
    let b = and_parts _ _ a.1 in
    (eqb-true _ _ a.0, record { root = root e p; low = leb-true _ _ b.0; high = ltb-true _ _ b.1; is = eqb-true _ _ a.0 })
from e p (x ∷ xs) t (suc k) h = from e (prime_from (p + 1) p) xs (and_parts _ _ t).1 k (le_of_suc-le-suc h)

-- the computed tests
all_rounds : walk 3 2 round_table ≡ true
unfolding walk root fraction root_from prime_from is_prime undivided
all_rounds = refl

all_starts : walk 2 2 start_table ≡ true
unfolding walk root fraction root_from prime_from is_prime undivided
all_starts = refl

pub round_equal : (k : ℕ) → k < 64 → get_or round_table k 0 ≡ round_word k
unfolding round_word prime_of
round_equal k h = (from 3 2 round_table all_rounds k h).0

pub round_rooted : (k : ℕ) → k < 64 → Rooted 3 (prime_of k) (get_or round_table k 0)
unfolding prime_of
round_rooted k h = (from 3 2 round_table all_rounds k h).1

pub start_rooted : (k : ℕ) → k < 8 → Rooted 2 (prime_of k) (start_word k)
unfolding start_word prime_of
start_rooted k h =
    let entry = from 2 2 start_table all_starts k h in
    rw (← entry.0) entry.1

pub start_table_is : start_table ≡ start_words
unfolding start_words start_word prime_of
start_table_is = fill_by_all _ start_table 8 0 refl (λ k h. (from 2 2 start_table all_starts k h).0)
