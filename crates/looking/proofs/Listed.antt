-- The records from the head of a sound file on are its chain's.
use Rattle.std.proofs.Common.{◌≡◌, ℕ, ◌<◌, true, List, [], ◌∷◌, length, get_or, is_some, Some, None, Option, refl, ap, ap₂, arith}
use Rattle.std.proofs.lemmas.Bool.{lt-ltb}
use Rattle.device.specs.Effects.{State}
use Rattle.layout.specs.declared.NodeFields.{NodeFields}
use Rattle.layout.specs.Records.{node_of, node_fields, fields_of}
use Rattle.tree.specs.declared.Node.{Node}
use Rattle.chain.specs.Reading.{Link, node_in}
use Rattle.chain.specs.Listing.{entry}
use Rattle.chain.specs.Sound.{Chained}
use Rattle.chain.proofs.Files.{to_sound}
use Rattle.looking.specs.Chains.{record_in, chain_from, listed, ListsChain}

-- a slot's record has the fields that its bytes name
some_fields : (d : ℕ) (bs : List ℕ) → is_some (node_of d bs) ≡ true → node_of d bs ≡ Some (node_fields bs)
unfolding node_of
some_fields d bs e = grind arith

module _ (d : ℕ) (s : State) (on : s.power ≡ true) where
  -- the index from which a chain stands is that of its first record
  leads : (xs : List Link) (from : ℕ) (b : Option Node) (i : ℕ) → Chained d s.slots from b i xs → i ≡ entry xs 0
  leads [] from b i c = c
  leads (x ∷ xs) from b i (pos, lt, link, some, may, rest) = ap (λ (y : Link). y.slot) link

  record_there : (i : ℕ) → i < length s.slots → is_some (node_of d (get_or s.slots i [])) ≡ true → record_in d s i ≡ Some (node_fields (get_or s.slots i []))
  record_there i lt e = rw (lt-ltb i (length s.slots) lt, on) (some_fields d (get_or s.slots i []) e)

  along : (xs : List Link) (from : ℕ) (b : Option Node) (i : ℕ) → Chained d s.slots from b i xs → chain_from d s i (length xs) ≡ listed xs
  along [] from b i c = refl
  along (x ∷ xs) from b i (pos, lt, link, some, may, rest) =
      let bs : List ℕ = get_or s.slots i [] in
      let next : ℕ = (node_fields bs).next in
      let n : next ≡ entry xs 0 = leads xs _ _ next rest in
      let slot : i ≡ x.slot = ap (λ (y : Link). y.slot) link in
      let node : node_in bs ≡ x.node = ap (λ (y : Link). y.node) link in
      let f : node_fields bs ≡ fields_of x.node (entry xs 0) = ap₂ (λ (y : Node) (k : ℕ). fields_of y k) node n in
      let more : chain_from d s next (length xs) ≡ listed xs = along xs _ _ next rest in
      let first : (i, Some (node_fields bs)) ≡ (x.slot, Some (fields_of x.node (entry xs 0))) = ap₂ (λ (j : ℕ) (g : NodeFields). (j, Some g)) slot f in
      rw (record_there i lt some) (ap₂ (λ (p : ℕ × Option NodeFields) (ys : List (ℕ × Option NodeFields)). p ∷ ys) first more)

pub lists_chain : ListsChain
lists_chain d numbers s h xs on e = along d s on xs 0 None h.first (to_sound d numbers s.slots h xs e).chained
