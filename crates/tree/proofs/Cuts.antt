-- A cover can be cut at a node in one way only.
use Rattle.std.proofs.Common.{◌≡◌, ℕ, ◌+◌, ◌-◌, ◌^◌, ◌≤◌, List, [], ◌∷◌, ◌++◌, sym, refl, ◌∙◌, subst, ap₂, inl, arith, pow_pos}
use Rattle.tree.specs.declared.Node.{Node}
use Rattle.tree.specs.Cover.{In, Ordered, cover}
use Rattle.tree.specs.Puncture.{siblings_on, PuncturedAt}
use Rattle.tree.proofs.Members.{depth, first, in_right}
use Rattle.tree.proofs.Exact.{in_order}
use Rattle.tree.proofs.Replacement.{punctured}

-- in an ordered list a node stands once, so the list can be cut at it in one way only
one_cut : (d : ℕ) (x : Node) (as' bs cs ds : List Node) → Ordered d (as' ++ (x ∷ bs)) → as' ++ (x ∷ bs) ≡ cs ++ (x ∷ ds) → (as' ≡ cs) × (bs ≡ ds)
one_cut d x [] bs [] ds o q = (refl, cc)
one_cut d x [] bs (c ∷ cs) ds o q =
    let t : bs ≡ cs ++ (x ∷ ds) = cc in
    let w = pow_pos (d - depth x) in
    let z = o.0 x (subst (λ (l : List Node). In x l) (sym t) (in_right x cs (x ∷ ds) (inl refl))) in
    absurd (omega arith)
one_cut d x (a ∷ as') bs [] ds o q =
    let h : a ≡ x = cc in
    let w = pow_pos (d - depth x) in
    let z = o.0 x (in_right x as' (x ∷ bs) (inl refl)) in
    let z1 : first x + 2 ^ (d - depth x) ≤ first x = subst (λ (y : Node). first y + 2 ^ (d - depth y) ≤ first x) h z in
    absurd (omega arith)
one_cut d x (a ∷ as') bs (c ∷ cs) ds o q =
    let h : a ≡ c = cc in
    let t : as' ++ (x ∷ bs) ≡ cs ++ (x ∷ ds) = cc in
    let r = one_cut d x as' bs cs ds o.1 t in
    (ap₂ (λ (y : Node) (l : List Node). y ∷ l) h r.0, r.1)

pub punctured_at : PuncturedAt
punctured_at d spent n x front back q c =
    let i : In x (cover d spent) = subst (λ (l : List Node). In x l) (sym q) (in_right x front (x ∷ back) (inl refl)) in
    let r = punctured d spent n x i c in
    let o : Ordered d (r.front ++ (x ∷ r.back)) = subst (λ (l : List Node). Ordered d l) r.was (in_order d spent) in
    let u = one_cut d x r.front r.back front back o (sym r.was ∙ q) in
    r.is ∙ ap₂ (λ (l m : List Node). l ++ (siblings_on (depth x) (d - depth x) (first x) n ++ m)) u.0 u.1
