-- A file laid out as the cover of the spent numbers is read back.
use Rattle.std.proofs.Common.{◌≡◌, ℕ, suc, ◌+◌, ◌-◌, ◌*◌, ◌/◌, ◌<◌, ◌≤◌, true, false, leb, ◌⊎◌, List, [], ◌∷◌, get_or, Some, None, Option, Ok, sym, refl, ap, ◌∙◌, subst, ap₂, inl, inr, ⊎_elim, arith, pow_pos}
use Rattle.std.proofs.lemmas.Bool.{cases_Bool, le-leb}
use Rattle.device.specs.Effects.{Slots}
use Rattle.layout.specs.declared.Head.{Head}
use Rattle.layout.specs.declared.NodeFields.{NodeFields}
use Rattle.layout.specs.Records.{head_of, fields_of, node_of, value_of}
use Rattle.layout.proofs.Trips.{head_trip, node_trip}
use Rattle.tree.specs.declared.Node.{Node}
use Rattle.tree.specs.Nodes.{node_at, width_of, IsNode, Covers, Twins}
use Rattle.tree.specs.Cover.{In, Ordered, Reached, cover}
use Rattle.tree.proofs.Choice.{node_eq}
use Rattle.tree.proofs.Descent.{same_quot}
use Rattle.tree.proofs.Exact.{exactly, in_order}
use Rattle.tree.proofs.Places.{characterised}
use Rattle.tree.proofs.Shapes.{multiple, node_to, halved}
use Rattle.chain.specs.Reading.{Link, node_in, link_at, end_of, is_twin, after_twin, may_follow, file_of}
use Rattle.chain.specs.Listing.{entry}
use Rattle.chain.specs.Sound.{nodes_of, Chained, Linked, Laid, FileLaws}
use Rattle.chain.proofs.Order.{twin_from}
use Rattle.chain.proofs.Walks.{laid}
use Rattle.chain.proofs.Chains.{chained_slots, chained_distinct}
use Rattle.chain.proofs.Files.{to_sound, of_sound, file_fault, to_bare}
use Rattle.chain.proofs.Finds.{found_at, none_at}

-- two nodes of one depth that share a number are one
node_same : (d n : ℕ) (p q : Node) → IsNode d p → IsNode d q → p.depth ≡ q.depth → Covers d p n → Covers d q n → p ≡ q
node_same d n p q i j e c b =
    let w = width_of d p.depth in
    let v : w ≡ width_of d q.depth = ap (width_of d) e in
    let mp = multiple p.first w (node_to d w p refl i) in
    let mq = multiple q.first w (node_to d w q v j) in
    let qq : n / w ≡ q.first / w = subst (λ (k : ℕ). n / k ≡ q.first / k) (sym v) (same_quot d n q j b) in
    let same : p.first / w ≡ q.first / w = sym (same_quot d n p i c) ∙ qq in
    node_eq p q.depth q.first e (mp ∙ ap (λ (k : ℕ). k * w) same ∙ sym mq)

module _ (d : ℕ) (spent : List ℕ) (x y : Node) (t : Twins d x y) where
  dx : x.depth ≡ suc t.parent.depth
  dx = ap (λ (z : Node). z.depth) t.on_left

  dy : y.depth ≡ suc t.parent.depth
  dy = ap (λ (z : Node). z.depth) t.on_right

  fx : x.first ≡ t.parent.first
  fx = ap (λ (z : Node). z.first) t.on_left

  fy : y.first ≡ t.parent.first + width_of d (suc t.parent.depth)
  fy = ap (λ (z : Node). z.first) t.on_right

  -- a number under the parent lies under one of the children
  either_child : (n : ℕ) → Covers d t.parent n → Covers d x n ⊎ Covers d y n
  either_child n c = grind (arith, halved, dx, dy, fx, fy)

  -- siblings are not both in a cover: their parent would cover no spent number
  pub not_both : In x (cover d spent) → In y (cover d spent) → ⊥
  not_both i j =
      let a = (characterised d spent x).0 i in
      let b = (characterised d spent y).0 j in
      elim a.2 [
        | inl r ↦ let z : x.depth ≡ 0 = ap (λ (z : Node). z.depth) r in let e = dx in omega arith
        | inr (q, o, ch, (n, m, c)) ↦
            let p = t.parent in
            let ex = dx in
            let e : p.depth ≡ q.depth = omega (arith, ch.0) in
            let hp = halved d p.depth t.above in
            let v : width_of d q.depth ≡ width_of d p.depth = ap (width_of d) (sym e) in
            let vx : width_of d x.depth ≡ width_of d (suc p.depth) = ap (width_of d) dx in
            let pos = pow_pos (d - suc p.depth) in
            let ef = fx in
            let cp : Covers d p x.first = (omega arith, omega arith) in
            let cq : Covers d q x.first = elim ch.1 [ inl r ↦ (omega arith, omega arith) | inr r ↦ (omega arith, omega arith) ] in
            let same : q ≡ p = sym (node_same d x.first p q t.is_node o e cp cq) in
            let cn : Covers d p n = subst (λ (z : Node). Covers d z n) same c in
            ⊎_elim (λ (k : Covers d x n). a.1 n m k) (λ (k : Covers d y n). b.1 n m k) (either_child n cn)
      ]

module _ (d : ℕ) (s : Slots) where
  pub laid_chained : (xs : List Link) (from : ℕ) (b : Option Node) → Linked d s xs → ((y : Node) → In y (nodes_of xs) → IsNode d y) →
      ((y : Node) → In y (nodes_of xs) → from ≤ y.first) → Ordered d (nodes_of xs) → ((y : Node) → In y (nodes_of xs) → after_twin d b y ≡ false) →
      ((x y : Node) → In x (nodes_of xs) → In y (nodes_of xs) → Twins d x y → ⊥) → Chained d s from b (entry xs 0) xs
  laid_chained [] from b l nodes f o a t = refl
  laid_chained (x ∷ xs) from b l nodes f o a t =
      let st = l.0 in
      let bs : List ℕ = get_or s x.slot [] in
      let fs = fields_of x.node (entry xs 0) in
      let e : node_of d bs ≡ Some fs = ap (node_of d) st.bytes ∙ node_trip.back d fs x.value st.fits in
      let k = laid d bs fs e in
      let n : node_in bs ≡ x.node = ap (λ (z : NodeFields). node_at z.depth z.first) k.fields in
      let v : value_of bs ≡ x.value = ap value_of st.bytes ∙ node_trip.value fs x.value in
      let link : link_at s x.slot ≡ x = ap₂ (λ (z : Node) (u : List ℕ). record { slot = x.slot; node = z; value = u }) n v in
      let begins : leb from x.node.first ≡ true = le-leb _ _ (f x.node (inl refl)) in
      let alone : after_twin d b x.node ≡ false = a x.node (inl refl) in
      let may : may_follow d from b x.node ≡ true = rw (begins, alone) in
      let rest = laid_chained xs (end_of d x.node) (Some x.node) l.1 (λ y i. nodes y (inr i)) o.0 o.1
      (λ y i. ⊎_elim
      (λ (u : is_twin d x.node y ≡ true). absurd (t x.node y (inl refl) (inr i) (twin_from d x.node y (nodes x.node (inl refl)) (nodes y (inr i)) u)))
      (λ (u : is_twin d x.node y ≡ false). u)
      (cases_Bool (is_twin d x.node y)))
      (λ y z i j. t y z (inr i) (inr j)) in
      let P : NodeFields → Type 0 = λ z. Chained d s (end_of d (node_at z.depth z.first)) (Some (node_at z.depth z.first)) z.next xs in
      (st.above, st.below, link, k.some, subst (λ (z : Node). may_follow d from b z ≡ true) (sym n) may, subst P (sym k.fields) rest)

read_back : (d : ℕ) (s : Slots) (h : Head) (xs : List Link) (spent : List ℕ) → Laid d s h xs → nodes_of xs ≡ cover d spent → ((n : ℕ) → In n spent → n < h.issued) →
    file_of d h.numbers s ≡ Ok (h, xs)
read_back d s h xs spent l e u =
    let back : (y : Node) → In y (nodes_of xs) → In y (cover d spent) = λ y i. subst (λ (zs : List Node). In y zs) e i in
    let nodes : (y : Node) → In y (nodes_of xs) → IsNode d y = λ y i. ((characterised d spent y).0 (back y i)).0 in
    let o : Ordered d (nodes_of xs) = subst (Ordered d) (sym e) (in_order d spent) in
    let c' = laid_chained d s xs 0 None l.links nodes (λ y i. omega arith) o (λ y i. refl) (λ x y i j t. not_both d spent x y t (back x i) (back y j)) in
    let c : Chained d s 0 None h.first xs = subst (λ (k : ℕ). Chained d s 0 None k xs) (sym l.first) c' in
    of_sound d h.numbers s h xs
    (record {
      head = ap (head_of d) l.bytes ∙ head_trip.back d h l.fits;
      named = refl;
      chained = c;
      nodes = nodes;
      ordered = o;
      slots = chained_slots d s xs 0 None h.first c;
      distinct = chained_distinct d s xs 0 None h.first c;
      unissued = λ n i k.
          let r = (exactly d spent n k).1 (λ m. let q = u n m in omega arith) in
          subst (λ (zs : List Node). Reached d zs n) (sym e) r;
    })

pub file_laws : FileLaws
file_laws = record {
  exact = λ d n s h xs. (to_sound d n s h xs, of_sound d n s h xs);
  faults = file_fault;
  lacking = to_bare;
  back = read_back;
  found = found_at;
  missing = none_at;
}
