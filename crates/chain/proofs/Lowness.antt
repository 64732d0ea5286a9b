-- The lowest number under no record.
use Rattle.std.proofs.Common.{◌≡◌, ℕ, ◌<◌, ◌≤◌, max, cond, leb, List, [], ◌∷◌, refl, ap, ◌∙◌, subst, inl, inr, ⊎_elim, arith}
use Rattle.std.proofs.lemmas.Bool.{cases_lt}
use Rattle.tree.specs.declared.Node.{Node}
use Rattle.tree.specs.Nodes.{Covers}
use Rattle.tree.specs.Cover.{In, Ordered, Reached}
use Rattle.chain.specs.Reading.{Link, end_of, lowest_from}
use Rattle.chain.specs.Sound.{nodes_of}
use Rattle.chain.proofs.Order.{end_after}

-- one record further
abbrev step : ℕ → ℕ → Node → ℕ
step d m x = cond (leb x.first m) (max m (end_of d x)) m

step_cases : (d m : ℕ) (x : Node) (P : ℕ → Type 0) → (x.first ≤ m → P (max m (end_of d x))) → (m < x.first → P m) → P (step d m x)
step_cases d m x P f g = grind arith

step_up : (d m : ℕ) (x : Node) → m ≤ step d m x
step_up d m x = step_cases d m x (λ k. m ≤ k) (λ h. omega arith) (λ h. omega arith)

pub lowest_up : (d m : ℕ) (xs : List Link) → m ≤ lowest_from d m xs
lowest_up d m [] = omega arith
lowest_up d m (x ∷ xs) = let a = step_up d m x.node in let b = lowest_up d (step d m x.node) xs in omega arith

under : (d m n : ℕ) (x : Node) → m ≤ n → n < step d m x → Covers d x n
under d m n x l = grind (arith, step_cases)

-- the numbers before it are covered
pub lowest_covered : (d m : ℕ) (xs : List Link) (n : ℕ) → m ≤ n → n < lowest_from d m xs → Reached d (nodes_of xs) n
lowest_covered d m [] n l h = absurd (omega arith)
lowest_covered d m (x ∷ xs) n l h = ⊎_elim
    (λ (u : n < step d m x.node). (x.node, inl refl, under d m n x.node l u))
    (λ (u : step d m x.node ≤ n). let r = lowest_covered d (step d m x.node) xs n u h in (r.0, inr r.1, r.2))
    (cases_lt n (step d m x.node))

-- where every record begins later, nothing moves
stays : (d m : ℕ) (xs : List Link) → ((y : Node) → In y (nodes_of xs) → m < y.first) → lowest_from d m xs ≡ m
stays d m [] f = refl
stays d m (x ∷ xs) f =
    let e : step d m x.node ≡ m = step_cases d m x.node (λ k. k ≡ m) (λ h. let g = f x.node (inl refl) in absurd (omega arith)) (λ h. refl) in
    ap (λ (k : ℕ). lowest_from d k xs) e ∙ stays d m xs (λ y i. f y (inr i))

-- it is covered by none
pub lowest_bare : (d m : ℕ) (xs : List Link) → Ordered d (nodes_of xs) → (y : Node) → In y (nodes_of xs) → Covers d y (lowest_from d m xs) → ⊥
lowest_bare d m [] o y i c = i
lowest_bare d m (x ∷ xs) o y (inr i) c = lowest_bare d (step d m x.node) xs o.1 y i c
lowest_bare d m (x ∷ xs) o y (inl q) c =
    let c' : Covers d x.node (lowest_from d (step d m x.node) xs) = subst (λ (z : Node). Covers d z (lowest_from d (step d m x.node) xs)) q c in
    step_cases d m x.node (λ k. Covers d x.node (lowest_from d k xs) → ⊥)
    (λ h v. let u = lowest_up d (max m (end_of d x.node)) xs in omega arith)
    (λ h v.
    let a = end_after d x.node in
    let e = stays d m xs (λ z j. let l = o.0 z j in omega arith) in
    omega arith)
    c'
