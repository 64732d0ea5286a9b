-- A walk that succeeds, as a chain that stands in the slots; and what holds of every chain.
use Rattle.std.proofs.Common.{◌≡◌, ℕ, zero, suc, ◌+◌, ◌-◌, ◌^◌, ◌<◌, ◌≤◌, Bool, true, false, cond, ◌&&◌, ltb, leb, ◌≢◌, List, [], ◌∷◌, length, get_or, is_some, Some, None, Option, Ok, Err, Result, sym, refl, ap, ◌∙◌, subst, inl, inr, ⊎_elim, arith}
use Rattle.std.proofs.lemmas.Bool.{cases_Bool, and_parts, and_from, leb-true}
use Rattle.refusal.specs.declared.Refusal.TheVariants.{BadLink}
use Rattle.fault.specs.declared.Halt.{Halt}
use Rattle.fault.specs.Faults.{placed}
use Rattle.device.specs.Effects.{Slots}
use Rattle.layout.specs.declared.NodeFields.{NodeFields}
use Rattle.layout.specs.Records.{node_fields, node_of}
use Rattle.tree.specs.declared.Node.{Node}
use Rattle.tree.specs.Nodes.{IsNode}
use Rattle.tree.specs.Cover.{In, Ordered, Distinct}
use Rattle.tree.proofs.Shapes.{tested_node}
use Rattle.chain.specs.Reading.{Link, consed, node_in, link_at, end_of, may_follow, slots_of, walk}
use Rattle.chain.specs.Sound.{nodes_of, Chained}
use Rattle.chain.proofs.Order.{end_within, end_after}
use Rattle.chain.proofs.Walks.{walk_end, walk_on}

-- what a record's test lets through is a node
some_record : (b : Bool) (x : NodeFields) → is_some (cond {A = Option NodeFields} b (Some x) None) ≡ true → b ≡ true
some_record true x e = refl
some_record false x e = e

pub some_node : (d : ℕ) (bs : List ℕ) → is_some (node_of d bs) ≡ true → IsNode d (node_in bs)
unfolding node_of
some_node d bs e = grind (arith, some_record, and_parts, tested_node)

record Split (x : Link) (w : Result (List Link) Halt) (xs : List Link) : Type 0 where
  rest : List Link
  is : w ≡ Ok rest
  all : x ∷ rest ≡ xs

split : (x : Link) (w : Result (List Link) Halt) (xs : List Link) → consed x w ≡ Ok xs → Split x w xs
split x (Err h) xs e = absurd (cc)
split x (Ok ys) xs e = record { rest = ys; is = refl; all = cc }

module _ (d : ℕ) (s : Slots) where
  pub to_chained : (k from : ℕ) (b : Option Node) (last i : ℕ) (xs : List Link) → walk d k s from b last i ≡ Ok xs → Chained d s from b i xs
  unfolding walk
  to_chained k from b last zero xs e = let q : [] ≡ xs = cc in subst (Chained d s from b zero) q refl
  to_chained zero from b last (suc i) xs e = absurd (cc)
  to_chained (suc k) from b last (suc i) xs e = ⊎_elim
      (λ (t : ltb (suc i) (length s) ≡ true). ⊎_elim
      (λ (u : (is_some (node_of d (get_or s (suc i) [])) && may_follow d from b (node_in (get_or s (suc i) []))) ≡ true).
      let p = split (link_at s (suc i)) _ xs (rw (t, u) at e) in
      let v = and_parts (is_some (node_of d (get_or s (suc i) []))) _ u in
      subst (Chained d s from b (suc i)) p.all
      (omega arith, leb-true (suc (suc i)) (length s) t, refl, v.0, v.1, to_chained k _ _ (suc i) (node_fields (get_or s (suc i) [])).next p.rest p.is))
      (λ (u : (is_some (node_of d (get_or s (suc i) [])) && may_follow d from b (node_in (get_or s (suc i) []))) ≡ false).
      let f : Err (placed BadLink (suc i)) ≡ Ok xs = rw (t, u) at e in
      absurd (cc))
      (cases_Bool (is_some (node_of d (get_or s (suc i) [])) && may_follow d from b (node_in (get_or s (suc i) [])))))
      (λ (t : ltb (suc i) (length s) ≡ false).
      let f : Err (placed BadLink last) ≡ Ok xs = rw t at e in
      absurd (cc))
      (cases_Bool (ltb (suc i) (length s)))

  -- a record begins where its predecessor ends, or later
  pub starts : (from : ℕ) (b : Option Node) (y : Node) → may_follow d from b y ≡ true → from ≤ y.first
  starts from b y m = leb-true _ _ (and_parts (leb from y.first) _ m).0

  pub from_chained : (k from : ℕ) (b : Option Node) (last i : ℕ) (xs : List Link) → from ≤ 2 ^ d → 2 ^ d < from + k → Chained d s from b i xs →
      walk d k s from b last i ≡ Ok xs
  from_chained k from b last i [] l f c = ap (walk d k s from b last) c ∙ walk_end d s k from b last
  from_chained k from b last i (x ∷ xs) l f c =
      let y = node_in (get_or s i []) in
      let n : IsNode d y = some_node d (get_or s i []) c.3 in
      let more : k ≡ suc (k - 1) = omega arith in
      let ne : i ≢ 0 = omega (arith, c.0) in
      let st = starts from b y c.4 in
      let a = end_after d y in
      let w = from_chained (k - 1) (end_of d y) (Some y) i (node_fields (get_or s i [])).next xs (end_within d y n) (omega arith) c.5 in
      ap (λ (m : ℕ). walk d m s from b last i) more
      ∙ walk_on d s (k - 1) from b last i ne c.1 (and_from _ _ c.3 c.4)
      ∙ ap (consed (link_at s i)) w
      ∙ ap (λ (z : Link). Ok (z ∷ xs)) c.2

  pub chained_from : (xs : List Link) (from : ℕ) (b : Option Node) (i : ℕ) → Chained d s from b i xs → (y : Node) → In y (nodes_of xs) → from ≤ y.first
  chained_from [] from b i c y m = absurd m
  chained_from (x ∷ xs) from b i c y (inl q) = grind arith
  chained_from (x ∷ xs) from b i c y (inr m) = let r = chained_from xs _ _ _ c.5 y m in grind (arith, starts, end_after)

  pub chained_order : (xs : List Link) (from : ℕ) (b : Option Node) (i : ℕ) → Chained d s from b i xs → Ordered d (nodes_of xs)
  chained_order [] from b i c = tt
  chained_order (x ∷ xs) from b i c = (
    λ y m. subst (λ (z : Node). end_of d z ≤ y.first) (ap (λ (z : Link). z.node) c.2) (chained_from xs _ _ _ c.5 y m),
    chained_order xs _ _ _ c.5,
  )

  pub chained_nodes : (xs : List Link) (from : ℕ) (b : Option Node) (i : ℕ) → Chained d s from b i xs → (y : Node) → In y (nodes_of xs) → IsNode d y
  chained_nodes [] from b i c y m = absurd m
  chained_nodes (x ∷ xs) from b i c y (inl q) = subst (IsNode d) (ap (λ (z : Link). z.node) c.2 ∙ sym q) (some_node d (get_or s i []) c.3)
  chained_nodes (x ∷ xs) from b i c y (inr m) = chained_nodes xs _ _ _ c.5 y m

  pub chained_slots : (xs : List Link) (from : ℕ) (b : Option Node) (i : ℕ) → Chained d s from b i xs → (j : ℕ) → In j (slots_of xs) → (0 < j) × (j < length s)
  chained_slots [] from b i c j m = absurd m
  chained_slots (x ∷ xs) from b i c j (inl q) = grind arith
  chained_slots (x ∷ xs) from b i c j (inr m) = chained_slots xs _ _ _ c.5 j m

  -- the node in a slot of the chain is a node of the chain
  slot_node : (xs : List Link) (from : ℕ) (b : Option Node) (i : ℕ) → Chained d s from b i xs → (j : ℕ) → In j (slots_of xs) → In (node_in (get_or s j [])) (nodes_of xs)
  slot_node [] from b i c j m = absurd m
  slot_node (x ∷ xs) from b i c j (inl q) = grind arith
  slot_node (x ∷ xs) from b i c j (inr m) = inr (slot_node xs _ _ _ c.5 j m)

  pub chained_distinct : (xs : List Link) (from : ℕ) (b : Option Node) (i : ℕ) → Chained d s from b i xs → Distinct (slots_of xs)
  chained_distinct [] from b i c = tt
  chained_distinct (x ∷ xs) from b i c = (
    λ m.
        let e : x.slot ≡ i = sym (ap (λ (z : Link). z.slot) c.2) in
        let n = slot_node xs _ _ _ c.5 i (subst (λ (k : ℕ). In k (slots_of xs)) e m) in
        let l = chained_from xs _ _ _ c.5 (node_in (get_or s i [])) n in
        let a = end_after d (node_in (get_or s i [])) in
        omega arith,
    chained_distinct xs _ _ _ c.5,
  )
