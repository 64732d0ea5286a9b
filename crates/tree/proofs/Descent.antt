-- The values at the nodes, and going down from one to another.
use Rattle.std.proofs.Common.{◌≡◌, ℕ, zero, suc, ◌+◌, ◌-◌, ◌*◌, ◌/◌, ◌^◌, ◌<◌, ◌≤◌, Bool, true, false, eqb, List, [], ◌∷◌, ◌++◌, length, map, zero-add, sym, refl, ap, ◌∙◌, ap₂, inl, inr, arith, pow_pos, shr-shr}
use lib.Pow.{high}
use Rattle.tree.specs.declared.Node.{Node}
use Rattle.tree.specs.Nodes.{node_at, left_of, right_of, Covers, IsNode}
use Rattle.tree.specs.Cover.{In}
use Rattle.tree.proofs.Members.{depth, first}
use Rattle.tree.specs.Values.{Expansion, bit, step_of, way, follow, value_of, ValuesAre, Composed, KeyFrom, Agreed}
use Rattle.tree.proofs.Places.{cover_free, cover_under, node_of_under}
use Rattle.tree.proofs.Shapes.{halved}

pub follow_append : (g : Expansion) (v : List ℕ) (us bs : List Bool) → follow g v (us ++ bs) ≡ follow g (follow g v us) bs
follow_append g v [] bs = refl
follow_append g v (a ∷ us) bs = follow_append g (step_of g a v) us bs

pub length_way : (k low n : ℕ) → length (way k low n) ≡ k
length_way zero low n = refl
length_way (suc k) low n = ap suc (length_way k low n)

pub way_append : (a b c low n : ℕ) → a + b ≡ c → way c low n ≡ way a (b + low) n ++ way b low n
way_append zero b c low n q = grind arith
way_append (suc a) b zero low n q = absurd (omega arith)
way_append (suc a) b (suc c) low n q =
    let r : c + low ≡ a + (b + low) = omega arith in
    rw (r, way_append a b c low n (omega arith))

-- the way down to height low knows only n / 2 ^ low
bit_high : (k low n m : ℕ) → n / 2 ^ low ≡ m / 2 ^ low → bit (k + low) n ≡ bit (k + low) m
bit_high k low n m q =
    let c : low + k ≡ k + low = omega arith in
    rw (← c, ← shr-shr n low k, ← shr-shr m low k, q)

pub way_high : (k low n m : ℕ) → n / 2 ^ low ≡ m / 2 ^ low → way k low n ≡ way k low m
way_high zero low n m q = refl
way_high (suc k) low n m q = rw (bit_high k low n m q, way_high k low n m q)

pub quot : (q w n : ℕ) → q * 2 ^ w ≤ n → n < q * 2 ^ w + 2 ^ w → n / 2 ^ w ≡ q
quot q w n a b = grind (arith, high)

pub same_quot : (d n : ℕ) (x : Node) → IsNode d x → Covers d x n → n / 2 ^ (d - depth x) ≡ first x / 2 ^ (d - depth x)
same_quot d n x i c = grind (arith, pow_pos, quot)

pub composed : Composed
composed g d v x y i ly l c =
    let b = depth y - depth x in
    let k : b + (d - depth y) ≡ d - depth x = omega arith in
    let s = way_append (depth x) b (depth y) (d - depth y) (first y) (omega arith) in
    rw (s, follow_append, k, way_high (depth x) (d - depth x) (first y) (first x) (same_quot d (first y) x i c))

pub key_from_is : KeyFrom
key_from_is g d v x n i c =
    let z : d - d ≡ 0 = omega arith in
    record { same = rw z at (composed g d v x (node_at d n) i (omega arith) i.shallow c); steps = length_way (d - depth x) 0 n }

-- ---- one turn
bit_at : (d k n : ℕ) (x : Node) (i : IsNode d x) → depth x < d → (i.place * 2 + k) * 2 ^ (d - suc (depth x)) ≤ n →
    n < (i.place * 2 + k) * 2 ^ (d - suc (depth x)) + 2 ^ (d - suc (depth x)) → k < 2 → bit (d - suc (depth x)) n ≡ eqb k 1
bit_at d k n x i l a b s = grind (arith, quot)

-- the first number of a node that is no leaf, in halves of its width
halves : (d : ℕ) (x : Node) (i : IsNode d x) → depth x < d → first x ≡ i.place * 2 * 2 ^ (d - suc (depth x))
halves d x i l =
    let w = halved d (depth x) l in
    i.aligned ∙ rw w (omega arith)

pub bit_left : (d n : ℕ) (x : Node) → IsNode d x → depth x < d → Covers d (left_of x) n → bit (d - suc (depth x)) n ≡ false
bit_left d n x i l c =
    let s = halves d x i l in
    bit_at d 0 n x i l (omega arith) (omega arith) (omega arith)

pub bit_right : (d n : ℕ) (x : Node) → IsNode d x → depth x < d → Covers d (right_of d x) n → bit (d - suc (depth x)) n ≡ true
bit_right d n x i l c =
    let s = halves d x i l in
    bit_at d 1 n x i l (omega arith) (omega arith) (omega arith)

-- both children are nodes
pub left_node : (d : ℕ) (x : Node) → IsNode d x → depth x < d → IsNode d (left_of x)
left_node d x i l = record { shallow = l; place = i.place * 2; aligned = halves d x i l; inside = i.inside }

pub right_node : (d : ℕ) (x : Node) → IsNode d x → depth x < d → first x + 2 ^ (d - suc (depth x)) < 2 ^ d → IsNode d (right_of d x)
right_node d x i l r =
    let s = halves d x i l in
    record { shallow = l; place = i.place * 2 + 1; aligned = omega arith; inside = r }

-- one step down
pub stepped : (g : Expansion) (d : ℕ) (v : List ℕ) (e p n : ℕ) (b : Bool) → e < d → IsNode d (node_at e p) → Covers d (node_at e p) n → bit (d - suc e) n ≡ b →
    value_of g d v (node_at (suc e) n) ≡ step_of g b (value_of g d v (node_at e p))
stepped g d v e p n b l i c q =
    let o : suc e - e ≡ 1 = omega arith in
    sym (composed g d v (node_at e p) (node_at (suc e) n) i l (omega arith) c) ∙ rw (o, zero-add (d - suc e), q)

pub values_are : ValuesAre
values_are g d v =
    record {
      top = refl;
      on_left = λ x l i.
          let h = halved d (depth x) l in
          let z = pow_pos (d - suc (depth x)) in
          stepped g d v (depth x) (first x) (first x) false l i (omega arith, omega arith) (bit_left d (first x) x i l (omega arith, omega arith));
      on_right = λ x l i.
          let h = halved d (depth x) l in
          let z = pow_pos (d - suc (depth x)) in
          stepped g d v (depth x) (first x) (right_of d x).first true l i (omega arith, omega arith) (bit_right d (right_of d x).first x i l (omega arith, omega arith));
      leaf = λ n. let z : d - d ≡ 0 = omega arith in rw z;
    }

pub agree : {A : Type 0} (f f' : Node → A) (xs : List Node) → ((x : Node) → In x xs → f x ≡ f' x) → map f xs ≡ map f' xs
agree f f' [] s = refl
agree f f' (x ∷ xs) s = ap₂ (λ a l. a ∷ l) (s x (inl refl)) (agree f f' xs (λ y i. s y (inr i)))

pub agreed : Agreed
agreed d spent f f' s = grind (arith, agree, node_of_under, cover_under, cover_free)

-- ---- for a loop that walks down: h is what is left of the height
pub key_step : (g : Expansion) (v : List ℕ) (h n : ℕ) → 0 < h → follow g v (way h 0 n) ≡ follow g (step_of g (bit (h - 1) n) v) (way (h - 1) 0 n)
key_step g v zero n l = absurd (omega arith)
key_step g v (suc k) n l = grind arith
