-- Words read from chunks of four bytes.
use Rattle.std.proofs.Common.{◌≡◌, ℕ, zero, suc, ◌+◌, ◌*◌, ◌/◌, ◌<◌, ◌≤◌, List, [], length, get_or, drop, arith, le_of_suc-le-suc, not-suc-le-zero}
use Rattle.std.specs.Simd.{first_chunks}
use Rattle.std.proofs.lemmas.List.{get_or-take, get_or-drop}

-- place j of chunk i
pub chunk_at : (k : ℕ) (b : List ℕ) (i j : ℕ) → i < k → j < 4 → get_or (get_or (first_chunks 4 k b) i []) j 0 ≡ get_or b (4 * i + j) 0
chunk_at zero b i j h l = absurd (not-suc-le-zero h)
chunk_at (suc k) b zero j h l = grind (arith, get_or-take 4 b j 0 l)
chunk_at (suc k) b (suc i) j h l =
    grind (arith, chunk_at k (drop 4 b) i j (le_of_suc-le-suc h) l, get_or-drop 4 b (4 * i + j) 0)

-- the word that f makes of the bytes of chunk i is what it makes of the row's bytes at that place
pub word_at : (f : ℕ → ℕ → ℕ → ℕ → ℕ) (b : List ℕ) (cs : List (List ℕ)) → cs ≡ first_chunks 4 (length b / 4) b → (i w : ℕ) → 4 * i + 4 ≤ length b
    → w ≡ f (get_or (get_or cs i []) 0 0) (get_or (get_or cs i []) 1 0) (get_or (get_or cs i []) 2 0) (get_or (get_or cs i []) 3 0)
    → w ≡ f (get_or b (4 * i) 0) (get_or b (4 * i + 1) 0) (get_or b (4 * i + 2) 0) (get_or b (4 * i + 3) 0)
word_at f b cs e i w h is =
    let at = λ (j : ℕ) (l : j < 4). chunk_at (length b / 4) b i j (omega arith) l in
    let first : 4 * i + 0 ≡ 4 * i = omega arith in
    rw (is, e, at 0 (omega arith), at 1 (omega arith), at 2 (omega arith), at 3 (omega arith), first)
