-- The laws of slots in a row of bytes.
use Rattle.std.proofs.Common.{◌≡◌, ℕ, zero, suc, ◌+◌, ◌*◌, ◌/◌, ◌<◌, ◌≤◌, List, [], length, get_or, take, drop, set, sym, refl, ap, ◌∙◌, add_comm, mul-le-mul_right, suc-mul, zero-mul, arith, rules}
use Rattle.std.proofs.Math.Nat.{mul_assoc, div-mul-le_self}
use lib.Seq.{paste}
use Rattle.std.proofs.lemmas.List.{places, same_lists, drop-drop, take_all, drop_all, append-nil, length-take, length-drop}
use Rattle.device.specs.Effects.{torn, slot_size}
use Rattle.row.specs.Rows.{slots_in, slots_of}

-- there are as many slots as asked for
pub many : (w n : ℕ) (row : List ℕ) → length (slots_in w n row) ≡ n
unfolding slots_in
many w zero row = refl
many w (suc n) row = ap suc (many w n (drop w row))

-- slot i begins at byte i w
pub place : (w n : ℕ) (row : List ℕ) (i : ℕ) → i < n → get_or (slots_in w n row) i [] ≡ take w (drop (i * w) row)
unfolding slots_in
place w zero row i h = absurd (omega arith)
place w (suc n) row zero h = rw zero-mul
place w (suc n) row (suc i) h = rw (suc-mul i w, add_comm, ← drop-drop) (place w n (drop w row) i (omega arith))

-- each has w bytes, where the row has room
pub sized : (w n : ℕ) (row : List ℕ) → n * w ≤ length row → (i : ℕ) → i < n → length (get_or (slots_in w n row) i []) ≡ w
sized w n row f i h =
    rw (place w n row i h) (simp (length-take, length-drop) (omega (arith, mul-le-mul_right w h, suc-mul i w)))

-- the slots of a row have as many bytes as a slot has,
pub sized_row : (row : List ℕ) (k : ℕ) → k < length (slots_of row) → length (get_or (slots_of row) k []) ≡ slot_size
sized_row row k h = grind (arith, sized, many, div-mul-le_self)

-- and so have those in its whole parts of a bytes, with b slots in each
pub sized_parts : (a b : ℕ) (row : List ℕ) → b * slot_size ≡ a → (k : ℕ) → k < length (slots_in slot_size (length row / a * b) row) →
    length (get_or (slots_in slot_size (length row / a * b) row) k []) ≡ slot_size
sized_parts a b row e k h = grind (arith, sized, many, div-mul-le_self, mul_assoc)

-- the first m bytes of b in the place of slot i: that slot is torn, and every other as it was
pub pasted : (w n : ℕ) (row : List ℕ) → n * w ≤ length row → (i m : ℕ) (b : List ℕ) → i < n → m ≤ w → length b ≡ w → slots_in w n (paste row (i * w) (take m b) (length (take m b))) ≡ set (slots_in w n row) i (torn m (get_or (slots_in w n row) i []) b)
unfolding slots_in
pasted w zero row f i m b h k l = absurd (omega arith)
pasted w (suc n) row f zero m b h k l =
    let x : List ℕ = take m b in
    let room : suc n * w ≡ n * w + w = suc-mul n w in
    let head : take w (paste row 0 x (length x)) ≡ torn m (take w row) b = same_lists _ _ (search (rules, places)) (λ j e v. grind (arith, places)) in
    let tail : drop w (paste row 0 x (length x)) ≡ drop w row = same_lists _ _ (search (rules, places)) (λ j e v. grind (arith, places)) in
    rw (zero-mul w, head, tail) refl
pasted w (suc n) row f (suc i) m b h k l =
    let x : List ℕ = take m b in
    let at : ℕ = i * w in
    let room : suc n * w ≡ n * w + w = suc-mul n w in
    let begins : suc i * w ≡ at + w = suc-mul i w in
    let ends : suc i * w + w ≤ suc n * w = omega (arith, mul-le-mul_right w h, suc-mul (suc i) w) in
    let head : take w (paste row (at + w) x (length x)) ≡ take w row = same_lists _ _ (search (rules, places)) (λ j e v. grind (arith, places)) in
    let tail : drop w (paste row (at + w) x (length x)) ≡ paste (drop w row) at x (length x) = same_lists _ _ (search (rules, places)) (λ j e v. grind (arith, places)) in
    let rest = pasted w n (drop w row) (simp length-drop (omega arith)) i m b (omega arith) k l in
    rw (begins, head, tail, rest) refl

-- all of its bytes: that slot is new
pub whole : (w n : ℕ) (row : List ℕ) → n * w ≤ length row → (i : ℕ) (b : List ℕ) → i < n → length b ≡ w → slots_in w n (paste row (i * w) b w) ≡ set (slots_in w n row) i b
whole w n row f i b h l =
    let old : List ℕ = get_or (slots_in w n row) i [] in
    let all : take w b ≡ b = take_all w b (omega arith) in
    let new : torn w old b ≡ b = rw (all, drop_all w old (omega (arith, sized w n row f i h))) (append-nil b) in
    ap (λ (x : List ℕ). slots_in w n (paste row (i * w) x w)) (sym all)
    ∙ ap (λ (m : ℕ). slots_in w n (paste row (i * w) (take w b) m)) (sym (ap length all ∙ l))
    ∙ pasted w n row f i w b h (omega arith) l
    ∙ ap (set (slots_in w n row) i) new

pub ruleset slots = (many, place)
