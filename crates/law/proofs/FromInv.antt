-- What holds after every past gives the law's first two parts.
use Rattle.std.proofs.Common.{◌≡◌, ℕ, ◌-◌, ◌<◌, ◌≤◌, Bool, List, length, Ok, Err, sym, refl, ap, ◌∙◌, arith}
use Rattle.std.proofs.lemmas.Bool.{le-leb, lt-ltb}
use Rattle.octets.specs.Buffers.{filled}
use Rattle.refusal.specs.declared.Refusal.TheVariants.{NoFreeSlot, NoPower}
use Rattle.fault.specs.Faults.{placed}
use Rattle.fault.specs.declared.Halt.{Halt}
use Rattle.device.specs.Effects.{State}
use Rattle.session.specs.Limits.{max_record}
use Rattle.session.proofs.Trip.{least as shortest}
use Rattle.layout.specs.declared.Head.{Head}
use Rattle.tree.specs.declared.Node.{Node}
use Rattle.tree.specs.Nodes.{Covers}
use Rattle.tree.specs.Cover.{In, cover}
use Rattle.tree.specs.Values.{key_from, way}
use Rattle.tree.proofs.Exact.{at_most_one}
use Rattle.tree.proofs.Fewest.{least}
use Rattle.tree.proofs.Keys.{keys_of}
use Rattle.marks.specs.Rows.{room_of}
use Rattle.chain.specs.Reading.{Link, file_of, Sound}
use Rattle.calls.specs.Kits.{Kit, Lawful, numbers_in}
use Rattle.ticket.specs.Limits.{ticket_least, ticket_longest}
use Rattle.ticket.specs.Parts.{number_in, heading_in}
use Rattle.calls.specs.Files.{free_count}
use Rattle.chain.specs.Listing.{entry}
use Rattle.calls.proofs.Counting.{by_levels}
use Rattle.calls.specs.Calls.{Outcome, redeem_verdict, Hit, Seals, Redeeming, declined, spent, shut, strange, full, cut, opened}
use Rattle.calls.specs.Books.{Given, Book}
use Rattle.calls.specs.Pasts.{Mode, running}
use Rattle.law.specs.Law.{CoverLaw, Uncut, OnceLaw, RestBlank}
use Rattle.calls.proofs.Same.{same_self}
use Rattle.law.proofs.Invariant.{head_for, file_for, Inv}
use Rattle.law.proofs.Links.{link_count, link_over, link_is, key_is}
use Rattle.law.proofs.ReadsBack.{reads_back, links_read}
use Rattle.law.proofs.Readings.{MayRedeem, entry_open, redeem_ok, inv_reads, file_is, hit_may, hit_in}
use Rattle.law.proofs.TicketParts.{follow_long, number_is, name_is, heading_in_long, state_most, seals_state, ticket_long}

-- ---- the chain is the cover
pub cover_law : {k : Kit} {d : ℕ} {root name : List ℕ} {m : Mode} {s : State} {b : Book} → d ≤ 16 → Inv k d root name m s b → CoverLaw k d root name s.slots b
cover_law {k = k} {d = d} {root = root} {name = name} {b = b} l v =
    record {
      head = head_for k name b.issued (entry v.links 0);
      links = v.links;
      read = reads_back l v;
      counted = refl;
      named = refl;
      covers = v.covers;
      keys = λ n h. rw v.covers (keys_of k.generator.expansion d root b.spent n h).0;
      least = λ ys c. omega (arith, link_count v, least d b.spent ys c);
    }

-- a chain that is read is the one that stands, so the slots beside it are zero
pub rest_read : {k : Kit} {d : ℕ} {root name : List ℕ} {s : State} {b : Book} → d ≤ 16 → Inv k d root name running s b →
    (h : Head) (xs : List Link) → file_of d (numbers_in k) s.slots ≡ Ok (h, xs) → RestBlank s.slots xs
rest_read l v h xs e = rw (links_read l v e) (v.rest refl)

-- ---- its own
-- how the redemption of the ticket g can end, where so many slots are free and its number lies under x
data Ends (d free room : ℕ) (x : Node) (g : Given) (r : Outcome) (state : List ℕ) : Type 0 where
  wanting : free < d - x.depth → r ≡ Err (placed NoFreeSlot g.number) → Ends d free room x g r state
  cut_off : d - x.depth ≤ free → (h : Halt) → r ≡ Err h → h.refusal ≡ NoPower → Ends d free room x g r state
  opening : d - x.depth ≤ free → r ≡ Ok (length g.state, d - x.depth) → state ≡ filled g.state room → Ends d free room x g r state

-- a ticket given, whose number is unspent and lies under the node x of the cover
module _ {k : Kit} (lawful : Lawful k) {d : ℕ} {root name : List ℕ} {s : State} {b : Book} (deep : d ≤ 16) (v : Inv k d root name running s b)
    (g : Given) (given : In g b.given) (x : Node) (here : In x (cover d b.spent)) (under : Covers d x g.number) where
  -- nothing stops its redemption before the chain is searched
  verdict_is : (room marks : ℕ) → max_record ≤ room → room_of (length s.slots) ≤ marks → redeem_verdict k d s g.ticket room marks ≡ Ok (file_for k name b.issued v.links)
  verdict_is room marks r m =
      let most = state_most deep v g given in
      let long = ticket_long deep v g given lawful in
      let n = number_is deep v g given in
      rw (
        entry_open d s.slots max_record room marks r m v.stands.fits,
        inv_reads deep v,
        le-leb (ticket_least k.sealer.overhead) (length g.ticket) (omega (arith, shortest g.state (v.records g given))),
        le-leb (length g.ticket) (ticket_longest k.sealer.overhead) (omega arith),
        name_is deep v g given,
        same_self name,
        lt-ltb (number_in g.ticket) b.issued (omega (arith, v.issued g given)),
      )

  -- a link that covers the ticket's number is x, with the tree's value: the number's key follows from it
  node_is : (y : Link) → In y v.links → Covers d y.node (number_in g.ticket) → y.node ≡ x
  node_is y i c = at_most_one d b.spent g.number y.node x (link_is v y i).member here (rw (number_is deep v g given) at c) under

  seals : (y : Link) → In y v.links → Covers d y.node (number_in g.ticket) → Seals k d g.ticket y g.state
  seals y i c = record { short = state_most deep v g given; sealing = rw (key_is v y (number_in g.ticket) i c) (seals_state deep v g given) }

  -- and no other plain is sealed in it
  plain_is : (y : Link) → In y v.links → Covers d y.node (number_in g.ticket) → (plain : List ℕ) → Seals k d g.ticket y plain → plain ≡ g.state
  plain_is y i c plain t =
      lawful.seals.apart (key_from k.generator.expansion d y.node y.value (number_in g.ticket)) (heading_in g.ticket) plain g.state
      (ap length (key_is v y (number_in g.ticket) i c) ∙ follow_long k lawful root (way d 0 (number_in g.ticket)) v.rooted)
      (heading_in_long deep v g given) t.short (state_most deep v g given) (t.sealing ∙ sym (seals y i c).sealing)

  -- so the file found is the one read
  found_is : {f : Sound} → MayRedeem k d s g.ticket f → f ≡ file_for k name b.issued v.links
  found_is {f = f} may = file_is deep v f may.read

  -- what a hit tells of the free slots and of those that are needed
  measured : {room marks : ℕ} {f : Sound} {front : List Link} {y : Link} {back : List Link} → Hit k d s g.ticket room marks f front y back →
      (free_count s.slots f.1 ≡ length s.slots - 1 - length (cover d b.spent)) × (d - y.node.depth ≡ d - x.depth)
  measured {f = f} {y = y} h =
      let c : length f.1 ≡ length v.links = ap (λ (z : Sound). length z.1) (found_is (hit_may deep v h)) in
      let a = link_count v in
      let e : y.node.depth ≡ x.depth = ap (λ (z : Node). z.depth) (node_is y (hit_in deep v h) h.covers) in
      (omega arith, omega arith)

  ends : {room marks : ℕ} → max_record ≤ room → room_of (length s.slots) ≤ marks →
      {r : Outcome} {state : List ℕ} {t : State} {joined : Bool} → Redeeming k d s g.ticket room marks r state t joined → Ends d (length s.slots - 1 - length (cover d b.spent)) room x g r state
  ends {room = room} {marks = marks} lr lm (declined h q e u j) = let w = verdict_is room marks lr lm in absurd (cc)
  ends {room = room} {marks = marks} lr lm (spent f q no-link e u j) =
      let t = link_over v x here in
      let n = number_is deep v g given in
      let same = found_is (redeem_ok g.ticket room marks f q) in
      absurd (no-link t.0 (rw same t.1) (rw (n, t.2) under))
  ends lr lm (shut f front y back h no_plain e u j) = absurd (no_plain g.state (seals y (hit_in deep v h) h.covers))
  ends lr lm (strange f front y back plain h se odd e u j) =
      let p = plain_is y (hit_in deep v h) h.covers plain se in
      let q = v.records g given in
      absurd (cc)
  ends lr lm (full f front y back plain h se is few e u j) =
      let m = measured h in
      wanting (omega arith) (rw (number_is deep v g given) at e)
  ends lr lm (cut f front y back plain fs n h hit se ready short e o z j) =
      let m = measured hit in
      cut_off (omega arith) h e (ap (λ (w : Halt). w.refusal) short.halt)
  ends lr lm (opened f front y back plain fs h se ready tq o j e st) =
      let i = hit_in deep v h in
      let m = measured h in
      let p = plain_is y i h.covers plain se in
      let n = node_is y i h.covers in
      let l = by_levels e in
      opening (omega arith) (cc) (cc)

  -- with room for the puncture and no cut, only the opening is left
  opens_own : d - x.depth ≤ length s.slots - 1 - length (cover d b.spent) → (room marks : ℕ) → max_record ≤ room → room_of (length s.slots) ≤ marks →
      (r : Outcome) (state : List ℕ) (t : State) (joined : Bool) → Redeeming k d s g.ticket room marks r state t joined → Uncut r →
      (r ≡ Ok (length g.state, d - x.depth)) × (state ≡ filled g.state room)
  opens_own enough room marks lr lm r state t joined call uncut =
      elim (ends lr lm call) [
        | wanting few e ↦ absurd (omega arith)
        | cut_off l h e p ↦ absurd (uncut h e p)
        | opening l e st ↦ (e, st)
      ]

  -- with too few free slots it is declined for that
  pub full_own : length s.slots - 1 - length (cover d b.spent) < d - x.depth → {room marks : ℕ} → max_record ≤ room → room_of (length s.slots) ≤ marks →
      {r : Outcome} {state : List ℕ} {t : State} {joined : Bool} → Redeeming k d s g.ticket room marks r state t joined → r ≡ Err (placed NoFreeSlot g.number)
  full_own few lr lm call =
      elim (ends lr lm call) [
        | wanting l e ↦ e
        | cut_off l h e p ↦ absurd (omega arith)
        | opening l e st ↦ absurd (omega arith)
      ]

-- ---- once, and its own
pub once_law : {k : Kit} {d : ℕ} {root name : List ℕ} {m : Mode} {s : State} {b : Book} → Lawful k → d ≤ 16 → Inv k d root name m s b → OnceLaw k d root name m s b
once_law lawful l v = record { once = v.once; tickets = v.tickets; opens = λ e g given unspent x here under free. opens_own lawful l (rw e at v) g given x here under free }
