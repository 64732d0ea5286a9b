-- The record that covers a number.
use Rattle.std.proofs.Common.{◌≡◌, ℕ, true, false, leb, List, [], ◌∷◌, Some, None, refl, ap, subst, ⊎_elim, arith}
use Rattle.std.proofs.lemmas.Bool.{cases_Bool, and_parts, and_from, leb-true, ltb-true, le-leb, lt-ltb, both_ways}
use Rattle.tree.specs.declared.Node.{Node}
use Rattle.tree.specs.Nodes.{Covers}
use Rattle.tree.specs.Cover.{In, Reached}
use Rattle.chain.specs.declared.Found.{Found}
use Rattle.chain.specs.Reading.{Link}
use Rattle.chain.specs.Listing.{is_under, between, find_in}
use Rattle.chain.specs.Sound.{nodes_of, FoundAt}

under_covers : (d n : ℕ) (x : Node) → is_under d x n ≡ true → Covers d x n
under_covers d n x t = let p = and_parts (leb x.first n) _ t in (leb-true _ _ p.0, ltb-true _ _ p.1)

covers_under : (d n : ℕ) (x : Node) → Covers d x n → is_under d x n ≡ true
covers_under d n x c = and_from _ _ (le-leb _ _ c.0) (lt-ltb _ _ c.1)

pub found_at : (d n b : ℕ) (xs : List Link) (f : Found) → find_in d n b xs ≡ Some f → FoundAt d n b xs f
found_at d n b [] f e = absurd (cc)
found_at d n b (x ∷ xs) f e = ⊎_elim
    (λ (t : is_under d x.node n ≡ true).
    let g : Some (between b x xs) ≡ Some f = rw t at e in
    record { front = []; link = x; back = xs; split = refl; is = cc; covers = under_covers d n x.node t })
    (λ (t : is_under d x.node n ≡ false).
    let g : find_in d n x.slot xs ≡ Some f = rw t at e in
    let r = found_at d n x.slot xs f g in
    record { front = x ∷ r.front; link = r.link; back = r.back; split = ap (λ (ys : List Link). x ∷ ys) r.split; is = r.is; covers = r.covers })
    (cases_Bool (is_under d x.node n))

none_in : (d n b : ℕ) (xs : List Link) → find_in d n b xs ≡ None → (y : Node) → In y (nodes_of xs) → Covers d y n → ⊥
none_in d n b [] e y i c = i
none_in d n b (x ∷ xs) e y i c = ⊎_elim
    (λ (t : is_under d x.node n ≡ true). let g : Some (between b x xs) ≡ None = rw t at e in let z : ◌≡◌ {A = ℕ} 0 1 = cc in omega arith)
    (λ (t : is_under d x.node n ≡ false).
    let g : find_in d n x.slot xs ≡ None = rw t at e in
    ⊎_elim
    (λ (q : y ≡ x.node). both_ways _ t (covers_under d n x.node (subst (λ (z : Node). Covers d z n) q c)))
    (λ (j : In y (nodes_of xs)). none_in d n x.slot xs g y j c)
    i)
    (cases_Bool (is_under d x.node n))

pub none_at : (d n b : ℕ) (xs : List Link) → find_in d n b xs ≡ None → Reached d (nodes_of xs) n → ⊥
none_at d n b xs e r = none_in d n b xs e r.0 r.1 r.2
