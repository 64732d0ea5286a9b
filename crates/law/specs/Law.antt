-- The law over pasts: a running server has its power on and zeros in its free slots, the chain is the cover, a number opens once
-- and its ticket opens as its own, and servers that agree answer alike.
use Rattle.std.specs.Prelude.{◌≡◌, ℕ, ◌-◌, ◌^◌, ◌<◌, ◌≤◌, Bool, true, ◌↔◌, List, [], ◌∷◌, map, length, Ok, Err, Result, ◌≢◌, slice_index_or}
use Rattle.octets.specs.Buffers.{filled}
use Rattle.refusal.specs.declared.Refusal.TheVariants.{NoPower}
use Rattle.fault.specs.declared.Halt.{Halt}
use Rattle.device.specs.Effects.{Slots, blank, State}
use Rattle.session.specs.Limits.{max_record}
use Rattle.layout.specs.declared.Head.{Head}
use Rattle.tree.specs.declared.Node.{Node}
use Rattle.tree.specs.Nodes.{tree_levels, IsNode, Covers}
use Rattle.tree.specs.Cover.{In, Free, Distinct, cover, CoversExactly}
use Rattle.tree.specs.Values.{value_of, key_of, valued_cover, WorkedOut}
use Rattle.marks.specs.Rows.{room_of}
use Rattle.chain.specs.Reading.{Link, valued_of, slots_of, file_of}
use Rattle.calls.specs.Kits.{Kit, Lawful, numbers_in}
use Rattle.calls.specs.Tickets.{ticket_of}
use Rattle.calls.specs.Calls.{Outcome, Issuing, Redeeming}
use Rattle.calls.specs.Books.{Given, Book}
use Rattle.calls.specs.Pasts.{Mode, running, Past}

-- ---- free slots
-- the slots that are neither the head's nor on the chain are zero
abbrev pub RestBlank : Slots → List Link → Type 0
RestBlank s xs = (i : ℕ) → 0 < i → i < length s → (In i (slots_of xs) → ⊥) → slice_index_or s i [] ≡ blank

-- ---- the chain is the cover
pub record CoverLaw (k : Kit) (d : ℕ) (root name : List ℕ) (s : Slots) (b : Book) : Type 0 where
  pub head : Head
  pub links : List Link
  -- the file reads as a head and a chain,
  pub read : file_of d (numbers_in k) s ≡ Ok (head, links)
  pub counted : head.issued ≡ b.issued
  pub named : head.name ≡ name
  -- the chain's nodes are the cover, in order, each with its value in the tree,
  pub covers : map valued_of links ≡ valued_cover k.generator.expansion d root b.spent
  -- the chain leads to a number's key just where that number is unspent,
  pub keys : (n : ℕ) → n < 2 ^ d → WorkedOut k.generator.expansion d (map valued_of links) n (key_of k.generator.expansion d root n) ↔ (In n b.spent → ⊥)
  -- and it takes at least as many nodes to cover the unspent numbers and no spent one
  pub least : (ys : List Node) → CoversExactly d b.spent ys → length links ≤ length ys

-- ---- once, and its own
-- the call was not cut, and found the power on
abbrev pub Uncut : {A : Type 0} → Result A Halt → Type 0
Uncut r = (h : Halt) → r ≡ Err h → h.refusal ≢ NoPower

pub record OnceLaw (k : Kit) (d : ℕ) (root name : List ℕ) (m : Mode) (s : State) (b : Book) : Type 0 where
  -- of the redemptions that gave a state no two were of one number
  pub once : Distinct b.opened
  -- each ticket that was handed out is its heading and its record, sealed under the key of its number
  pub tickets : (g : Given) → In g b.given → g.ticket ≡ ticket_of k name g.number (key_of k.generator.expansion d root g.number) g.state
  -- a ticket whose number is not spent opens as what it was issued for, when it is the next to be redeemed: the buffers must be long
  -- enough, enough slots free, and no cut may come
  pub opens : m ≡ running → (g : Given) → In g b.given → (In g.number b.spent → ⊥) →
      (x : Node) → In x (cover d b.spent) → Covers d x g.number → d - x.depth ≤ length s.slots - 1 - length (cover d b.spent) →
      (room marks : ℕ) → max_record ≤ room → room_of (length s.slots) ≤ marks →
      (r : Outcome) (state : List ℕ) (t : State) (joined : Bool) → Redeeming k d s g.ticket room marks r state t joined → Uncut r →
      (r ≡ Ok (length g.state, d - x.depth)) × (state ≡ filled g.state room)

-- ---- alike
-- a further call, by its arguments and the lengths of its buffers; and what it answers, with the buffer that it filled
pub data Ask : Type 0 where
  issuing : (plain : List ℕ) (room marks : ℕ) → Ask
  redeeming : (ticket : List ℕ) (room marks : ℕ) → Ask

pub record Reply : Type 0 where
  pub outcome : Outcome
  pub buffer : List ℕ

-- calls one after another, none of them cut
pub data Served (k : Kit) (d : ℕ) : State → List Ask → List Reply → Type 0 where
  done : (s : State) → Served k d s [] []
  issues : (s : State) (plain : List ℕ) (room marks : ℕ) (r : Outcome) (ticket : List ℕ) (t : State) (headed : Bool) (asks : List Ask) (replies : List Reply) →
      Issuing k d s plain room marks r ticket t headed → Uncut r → Served k d t asks replies →
      Served k d s (issuing plain room marks ∷ asks) (record { outcome = r; buffer = ticket } ∷ replies)
  redeems : (s : State) (ticket : List ℕ) (room marks : ℕ) (r : Outcome) (state : List ℕ) (t : State) (joined : Bool) (asks : List Ask) (replies : List Reply) →
      Redeeming k d s ticket room marks r state t joined → Uncut r → Served k d t asks replies →
      Served k d s (redeeming ticket room marks ∷ asks) (record { outcome = r; buffer = state } ∷ replies)

-- Two trees to be compared. Their servers have the same sealing, overhead and slot count, as many numbers issued and the same ones spent,
-- and each node over unspent numbers alone has the same value in both.
pub record Agree (d : ℕ) (k : Kit) (root : List ℕ) (s : Slots) (b : Book) (k' : Kit) (root' : List ℕ) (s' : Slots) (b' : Book) : Type 0 where
  pub sealing : k.sealer.sealing ≡ k'.sealer.sealing
  pub overhead : k.sealer.overhead ≡ k'.sealer.overhead
  pub slots : length s ≡ length s'
  pub issued : b.issued ≡ b'.issued
  pub spent : (n : ℕ) → In n b.spent ↔ In n b'.spent
  pub values : (x : Node) → IsNode d x → Free d b.spent x → value_of k.generator.expansion d root x ≡ value_of k'.generator.expansion d root' x

pub record AlikeLaw (k : Kit) (d : ℕ) (s : State) (k' : Kit) (s' : State) : Type 0 where
  pub head : Head
  pub links : List Link
  pub read : file_of d (numbers_in k) s.slots ≡ Ok (head, links)
  pub head' : Head
  pub links' : List Link
  pub read' : file_of d (numbers_in k') s'.slots ≡ Ok (head', links')
  pub chains : map valued_of links ≡ map valued_of links'
  pub rest : RestBlank s.slots links
  pub rest' : RestBlank s'.slots links'
  pub answers : (asks : List Ask) (replies replies' : List Reply) → Served k d s asks replies → Served k' d s' asks replies' → replies ≡ replies'

-- ---- the whole, of the trees in use
pub record Law : Type 0 where
  -- a running server's power is on,
  pub power_is_on : (k : Kit) (root name : List ℕ) (s : State) (b : Book) → Past k tree_levels root name running s b → s.power ≡ true
  -- and its free slots are zero
  pub free_slots_are_zero : (k : Kit) (root name : List ℕ) (s : State) (b : Book) → Past k tree_levels root name running s b →
      (h : Head) (xs : List Link) → file_of tree_levels (numbers_in k) s.slots ≡ Ok (h, xs) → RestBlank s.slots xs
  pub cover : (k : Kit) (root name : List ℕ) (m : Mode) (s : State) (b : Book) → Past k tree_levels root name m s b →
      CoverLaw k tree_levels root name s.slots b
  pub once : (k : Kit) (root name : List ℕ) (m : Mode) (s : State) (b : Book) → Lawful k → Past k tree_levels root name m s b →
      OnceLaw k tree_levels root name m s b
  pub alike : (k k' : Kit) (root root' name : List ℕ) (s s' : State) (b b' : Book) → Lawful k → Lawful k' →
      Past k tree_levels root name running s b → Past k' tree_levels root' name running s' b' →
      Agree tree_levels k root s.slots b k' root' s'.slots b' → AlikeLaw k tree_levels s k' s'
