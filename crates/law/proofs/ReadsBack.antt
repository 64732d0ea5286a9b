-- A file that stands in the slots, with the chain of a cover, reads as itself.
use Rattle.std.proofs.Common.{◌≡◌, ℕ, ◌^◌, ◌<◌, ◌≤◌, List, [], ◌∷◌, map, length, refl, ap, inl, inr, arith, pow_mono, Ok}
use Rattle.device.specs.Effects.{Slots, State}
use Rattle.layout.specs.declared.Head.{Head}
use Rattle.layout.specs.Records.{fields_of}
use Rattle.layout.specs.Trips.{NodeFits}
use Rattle.tree.specs.declared.Node.{Node}
use Rattle.tree.specs.Nodes.{IsNode}
use Rattle.tree.specs.Cover.{In}
use Rattle.tree.specs.Values.{valued_cover}
use Rattle.tree.proofs.Shapes.{node_tested}
use Rattle.chain.specs.Reading.{Link, valued_of, file_of, Sound}
use Rattle.chain.specs.Listing.{entry}
use Rattle.chain.specs.Sound.{Linked as LaidLinks}
use Rattle.chain.proofs.Backs.{file_laws}
use Rattle.ticket.specs.Limits.{name_length}
use Rattle.calls.specs.Kits.{Kit, numbers_in}
use Rattle.calls.specs.Calls.{max_slots}
use Rattle.calls.specs.Books.{Book}
use Rattle.calls.specs.Pasts.{Mode}
use Rattle.law.proofs.Invariant.{Linked, head_for, file_for, Stands, Inv}
use Rattle.law.proofs.Links.{cover_nodes, cover_link}
use Rattle.law.proofs.Frames.{count_most}

-- ---- the file as it is laid out
first_small : (s : Slots) (xs : List Link) → length s ≤ max_slots → Linked s xs 0 → entry xs 0 < 2 ^ 16
first_small s [] l k = omega arith
first_small s (x ∷ xs) l k = omega (arith, k.1)

node_fits : (d j : ℕ) (x : Node) → d ≤ 16 → IsNode d x → j < 2 ^ 16 → NodeFits d (fields_of x j)
node_fits d j x l o s =
    let p : 2 ^ d ≤ 2 ^ 16 = pow_mono l in
    record {
      node = node_tested d x o;
      first = omega (arith, o.inside);
      next = s;
    }

links_laid : (d : ℕ) (s : Slots) (xs : List Link) → d ≤ 16 → length s ≤ max_slots → ((x : Link) → In x xs → IsNode d x.node) → Linked s xs 0 → LaidLinks d s xs
links_laid d s [] dl few nodes k = tt
links_laid d s (x ∷ xs) dl few nodes k = (
  record {
    above = k.0;
    below = k.1;
    bytes = k.2;
    fits = node_fits d (entry xs 0) x.node dl (nodes x (inl refl)) (first_small s xs few k.3);
  },
  links_laid d s xs dl few (λ y i. nodes y (inr i)) k.3,
)

-- with the chain of any cover of numbers that are issued
pub stands_back : {k : Kit} {d : ℕ} (root : List ℕ) {name : List ℕ} {issued : ℕ} (spent : List ℕ) {s : Slots} {xs : List Link} → d ≤ 16 → Stands k d name issued s xs → length name ≡ name_length →
    issued ≤ 2 ^ d → ((n : ℕ) → In n spent → n < issued) → map valued_of xs ≡ valued_cover k.generator.expansion d root spent → file_of d (numbers_in k) s ≡ Ok (file_for k name issued xs)
stands_back {k = k} {d = d} root {name = name} {issued = issued} spent {s = s} {xs = xs} dl st named counted below covers =
    let few : length s ≤ max_slots = count_most d s st.fits in
    let small : entry xs 0 < 2 ^ 16 = first_small s xs few st.links in
    let p : 2 ^ d ≤ 2 ^ 16 = pow_mono dl in
    file_laws.back d s (head_for k name issued (entry xs 0)) xs spent
    (record {
      bytes = st.head;
      fits = record { first = small; issued = counted; word = omega (arith, counted); name = named };
      first = refl;
      links = links_laid d s xs dl few (λ x i. (cover_link k d root spent xs covers x i).is_node) st.links;
    })
    (cover_nodes k d root spent xs covers) below

-- with the chain that stands
pub reads_back : {k : Kit} {d : ℕ} {root name : List ℕ} {m : Mode} {s : State} {b : Book} → d ≤ 16 → (v : Inv k d root name m s b) →
    file_of d (numbers_in k) s.slots ≡ Ok (file_for k name b.issued v.links)
reads_back {root = root} {b = b} dl v = stands_back root b.spent dl v.stands v.named v.counted v.below v.covers

-- a chain that is read is the one that stands
pub links_read : {k : Kit} {d : ℕ} {root name : List ℕ} {m : Mode} {s : State} {b : Book} → d ≤ 16 → (v : Inv k d root name m s b) →
    {h : Head} {xs : List Link} → file_of d (numbers_in k) s.slots ≡ Ok (h, xs) → xs ≡ v.links
links_read {k = k} {name = name} {b = b} dl v {h = h} {xs = xs} e =
    let r = reads_back dl v in
    let q : (h, xs) ≡ file_for k name b.issued v.links = cc in
    ap (λ (z : Sound). z.1) q
