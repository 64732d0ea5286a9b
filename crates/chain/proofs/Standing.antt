-- A record of a file that is sound, from the slot that it stands in.
use Rattle.std.proofs.Common.{◌≡◌, ℕ, ◌<◌, List, [], ◌∷◌, ◌++◌, length, get_or, Some, None, Option, sym, refl, ap, ◌∙◌, inl, inr}
use Rattle.device.specs.Effects.{Slots}
use Rattle.layout.specs.declared.Head.{Head}
use Rattle.layout.specs.declared.Numbers.{Numbers}
use Rattle.layout.specs.Records.{node_fields}
use Rattle.tree.specs.declared.Node.{Node}
use Rattle.tree.specs.Nodes.{IsNode}
use Rattle.tree.specs.Cover.{In}
use Rattle.tree.proofs.Members.{in_right}
use Rattle.chain.specs.Reading.{Link, end_of, node_in, link_at}
use Rattle.chain.specs.Sound.{Chained, SoundFile}
use Rattle.chain.proofs.Members.{in_map}

-- a record of the chain has the value that stands in its slot
pub link_value : (d : ℕ) (s : Slots) (xs : List Link) (from : ℕ) (b : Option Node) (i : ℕ) → Chained d s from b i xs → (x : Link) → In x xs → x ≡ link_at s x.slot
link_value d s [] from b i c x m = absurd m
link_value d s (y ∷ ys) from b i c x (inl e) = e ∙ sym c.2 ∙ ap (λ (z : Link). link_at s z.slot) (c.2 ∙ sym e)
link_value d s (y ∷ ys) from b i c x (inr m) =
    link_value d s ys (end_of d (node_in (get_or s i []))) (Some (node_in (get_or s i []))) (node_fields (get_or s i [])).next c.5 x m

-- the record x of a file, between front and back: in a slot of the device, read from there, a node of the tree
pub record Standing (d : ℕ) (s : Slots) (x : Link) : Type 0 where
  pub link : x ≡ link_at s x.slot
  pub within : x.slot < length s
  pub node : IsNode d x.node

pub standing : {d : ℕ} {numbers : Numbers} {s : Slots} {h : Head} {xs : List Link} (front : List Link) (x : Link) (back : List Link) →
    SoundFile d numbers s h xs → xs ≡ front ++ x ∷ back → Standing d s x
standing {d = d} {s = s} {h = h} {xs = xs} front x back f split =
    record {
      link = link_value d s xs 0 None h.first f.chained x (rw split (in_right x front (x ∷ back) (inl refl)));
      within = (f.slots x.slot (in_map (λ (z : Link). z.slot) x xs (rw split (in_right x front (x ∷ back) (inl refl))))).1;
      node = f.nodes x.node (in_map (λ (z : Link). z.node) x xs (rw split (in_right x front (x ∷ back) (inl refl))));
    }
