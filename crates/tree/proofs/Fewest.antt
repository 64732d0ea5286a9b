-- No nodes that cover the same numbers are fewer: the other list is split at the middle on the way down.
use Rattle.std.proofs.Common.{◌≡◌, ℕ, zero, suc, ◌+◌, ◌^◌, ◌<◌, ◌≤◌, ltb, leb, ◌⊎◌, List, [], ◌∷◌, length, filter, inl, inr, arith, length-append, pow_pos, ltb-true, lt-ltb, le-leb, leb-true}
use Rattle.tree.specs.declared.Node.{Node}
use Rattle.tree.specs.Cover.{In, Free, below, above, cover_at, Reached, Least}
use Rattle.tree.proofs.Members.{first, in_below, in_above, of_below, of_above, in_filter, of_filter, Within, within_below, within_above, within_root, Under, range}
use Rattle.tree.proofs.Bounds.{halves}
use Rattle.tree.proofs.Choice.{not_struck}
use Rattle.tree.proofs.Places.{under_of_node}

-- the members that begin below m, and the others
abbrev lows : ℕ → List Node → List Node
lows m xs = filter (λ x. ltb (first x) m) xs

abbrev highs : ℕ → List Node → List Node
highs m xs = filter (λ x. leb m (first x)) xs

in_lows : (m : ℕ) (x : Node) (xs : List Node) → In x xs → first x < m → In x (lows m xs)
in_lows m x xs i h = grind (arith, in_filter, lt-ltb)

in_highs : (m : ℕ) (x : Node) (xs : List Node) → In x xs → m ≤ first x → In x (highs m xs)
in_highs m x xs i h = grind (arith, in_filter, le-leb)

of_lows : (m : ℕ) (x : Node) (xs : List Node) → In x (lows m xs) → In x xs × (first x < m)
of_lows m x xs i = grind (arith, of_filter, ltb-true)

of_highs : (m : ℕ) (x : Node) (xs : List Node) → In x (highs m xs) → In x xs × (m ≤ first x)
of_highs m x xs i = grind (arith, of_filter, leb-true)

-- a list of nodes under (e, p) that covers the numbers there that are not spent
record Does (d e h p : ℕ) (ns : List ℕ) (xs : List Node) : Type 0 where
  under : (x : Node) → In x xs → Under e h p x
  free : (x : Node) → In x xs → Free d ns x
  reach : (n : ℕ) → p ≤ n → n < p + 2 ^ h → (In n ns → ⊥) → Reached d xs n

some : (d e h p : ℕ) (xs : List Node) → Does d e h p [] xs → 1 ≤ length xs
some d e h p xs r = pos xs (r.reach p (omega arith) (let z = pow_pos h in omega arith) (λ i. i))
  where
    pos : (ys : List Node) → Reached d ys p → 1 ≤ length ys
    pos [] t = absurd t.1
    pos (y ∷ ys) t = omega arith

-- where (e, p) is struck each member lies in one half
half : (d e h p k : ℕ) (ks : List ℕ) (xs : List Node) → e + suc h ≡ d → Within (suc h) p (k ∷ ks) → Does d e (suc h) p (k ∷ ks) xs →
    (x : Node) → In x xs → Under (suc e) h p x ⊎ Under (suc e) h (p + 2 ^ h) x
half d e h p k ks xs q w r x i =
    elim (r.under x i) [
      | inl s ↦ absurd (not_struck d e (suc h) p k ks x q w s (r.free x i))
      | inr s ↦ s
    ]

left : (d e h p k : ℕ) (ks : List ℕ) (xs : List Node) → e + suc h ≡ d → Within (suc h) p (k ∷ ks) → Does d e (suc h) p (k ∷ ks) xs →
    Does d (suc e) h p (below (p + 2 ^ h) (k ∷ ks)) (lows (p + 2 ^ h) xs)
left d e h p k ks xs q w r =
    let m = p + 2 ^ h in
    record {
      under = λ x i.
          let a = of_lows m x xs i in
          elim (half d e h p k ks xs q w r x a.0) [ inl u ↦ u | inr u ↦ let g = range d (suc e) h m x (omega arith) u in absurd (omega arith) ];
      free = λ x i n j. r.free x (of_lows m x xs i).0 n (of_below m n (k ∷ ks) j).0;
      reach = λ n a b f.
          let t = r.reach n a (omega arith) (λ j. f (in_below m n (k ∷ ks) j b)) in
          (t.0, in_lows m t.0 xs t.1 (omega (arith, t.2)), t.2);
    }

right : (d e h p k : ℕ) (ks : List ℕ) (xs : List Node) → e + suc h ≡ d → Within (suc h) p (k ∷ ks) → Does d e (suc h) p (k ∷ ks) xs →
    Does d (suc e) h (p + 2 ^ h) (above (p + 2 ^ h) (k ∷ ks)) (highs (p + 2 ^ h) xs)
right d e h p k ks xs q w r =
    let m = p + 2 ^ h in
    record {
      under = λ x i.
          let a = of_highs m x xs i in
          elim (half d e h p k ks xs q w r x a.0) [ inl u ↦ let g = range d (suc e) h p x (omega arith) u in absurd (omega arith) | inr u ↦ u ];
      free = λ x i n j. r.free x (of_highs m x xs i).0 n (of_above m n (k ∷ ks) j).0;
      reach = λ n a b f.
          let t = r.reach n (omega arith) (omega arith) (λ j. f (in_above m n (k ∷ ks) j a)) in
          let hi : m ≤ first t.0 =
          elim (half d e h p k ks xs q w r t.0 t.1) [
            | inl u ↦ let g = range d (suc e) h p t.0 (omega arith) u in absurd (omega (arith, t.2))
            | inr u ↦ (range d (suc e) h m t.0 (omega arith) u).low
          ] in
          (t.0, in_highs m t.0 xs t.1 hi, t.2);
    }

least_at : (d e h p : ℕ) (ns : List ℕ) (xs : List Node) → e + h ≡ d → Within h p ns → Does d e h p ns xs → length (cover_at e h p ns) ≤ length xs
least_at d e h p [] xs q w r = some d e h p xs r
least_at d e zero p (k ∷ ks) xs q w r = omega arith
least_at d e (suc h) p (k ∷ ks) xs q w r =
    let m = p + 2 ^ h in
    let a = least_at d (suc e) h p (below m (k ∷ ks)) (lows m xs) (omega arith) (within_below h p (k ∷ ks) w) (left d e h p k ks xs q w r) in
    let b = least_at d (suc e) h m (above m (k ∷ ks)) (highs m xs) (omega arith) (within_above h p (k ∷ ks) w) (right d e h p k ks xs q w r) in
    let c = halves first m xs in
    rw length-append (omega arith)

pub least : Least
least d spent xs r =
    least_at d 0 d 0 (below (2 ^ d) spent) xs (omega arith) (within_root d spent)
    (record {
      under = λ x i. under_of_node d x (r.nodes x i);
      free = λ x i n j. r.free x i n (of_below (2 ^ d) n spent j).0;
      reach = λ n a b f. r.reach n (omega arith) (λ j. f (in_below (2 ^ d) n spent j (omega arith)));
    })
