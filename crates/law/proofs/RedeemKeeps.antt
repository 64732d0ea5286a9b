-- Redeeming keeps what holds: refused it leaves all as it is, cut it leaves the old chain or the new one, and done the new one with zeros besides.
use Rattle.std.proofs.Common.{◌≡◌, ℕ, zero, suc, ◌+◌, ◌-◌, ◌<◌, ◌≤◌, Bool, true, false, ltb, List, [], ◌∷◌, ◌++◌, map, length, take, Ok, Err, sym, refl, ap, ◌∙◌, inl, inr, arith}
use Rattle.std.proofs.lemmas.List.{length-append, length-map, map-append, take-append-le, take_all}
use Rattle.std.proofs.lemmas.Bool.{cases_lt, lt-ltb, le-ltb}
use Rattle.fault.specs.declared.Halt.{Halt}
use Rattle.device.specs.Effects.{Slots, State}
use Rattle.tree.specs.declared.Node.{Node}
use Rattle.tree.specs.Cover.{In, Distinct, cover}
use Rattle.tree.specs.Puncture.{siblings_from}
use Rattle.tree.specs.Values.{Expansion, Valued, valued, value_of, value_from, valued_cover}
use Rattle.tree.proofs.Members.{in_right}
use Rattle.tree.proofs.Places.{cover_free}
use Rattle.tree.proofs.Flanks.{length_siblings}
use Rattle.tree.proofs.Keys.{uncut, punctured_values}
use Rattle.chain.specs.Reading.{Link, valued_of, slots_of, Sound}
use Rattle.calls.specs.Kits.{Kit}
use Rattle.ticket.specs.Parts.{number_in}
use Rattle.steps.specs.OneStep.{Write}
use Rattle.steps.specs.Writes.{stood, CutShort}
use Rattle.chain.specs.Listing.{entry}
use Rattle.calls.specs.Files.{links_in, new_writes, join_write, erase_write, redeem_writes}
use Rattle.calls.specs.Calls.{Outcome, Untouched, Hit, new_links, Ready, Redeeming}
use Rattle.calls.specs.Books.{Book, redeem, fed}
use Rattle.calls.specs.Pasts.{Mode, running, cold, mode_after}
use Rattle.law.specs.Law.{RestBlank}
use Rattle.law.proofs.Invariant.{Stands, Inv}
use Rattle.law.proofs.Readings.{moved, still, hit_may, file_is, hit_chain}
use Rattle.law.proofs.Splice.{links_slots, links_valued, length_writes, Fresh, unjoined, joins, erases, rest_blank}

-- ---- where a puncture takes place, and what it makes of the cover
record Spot (k : Kit) (d : ℕ) (root name : List ℕ) (s : Slots) (b : Book) (n : ℕ) (front : List Link) (x : Link) (back new : List Link) : Type 0 where
  fresh : Fresh k d name b.issued s front x back new
  covers : map valued_of (front ++ (x ∷ back)) ≡ valued_cover k.generator.expansion d root b.spent
  rest : RestBlank s (front ++ (x ∷ back))
  count : length new ≡ d - x.node.depth
  after : map valued_of (front ++ (new ++ back)) ≡ valued_cover k.generator.expansion d root (n ∷ b.spent)
  unspent : In n b.spent → ⊥
  issued : n < b.issued

length_valued : (f : Node → List ℕ) (xs : List Node) → length (valued f xs) ≡ length xs
length_valued f [] = refl
length_valued f (x ∷ xs) = ap suc (length_valued f xs)

-- a cut of the cover with values is at a node of the cover
in_cover : (g : Expansion) (d : ℕ) (v spent : List ℕ) (x : Node) (u : List ℕ) (front back : List Valued) →
    valued_cover g d v spent ≡ front ++ ((x, u) ∷ back) → In x (cover d spent)
in_cover g d v spent x u front back q =
    let c = uncut (value_of g d v) (cover d spent) x u front back q in
    rw c.was (in_right x c.before (x ∷ c.after) (inl refl))

-- a redemption that passes, hits x and is ready, has such a spot
spot : {k : Kit} {d : ℕ} {root name : List ℕ} {s : State} {b : Book} {ticket : List ℕ} {room marks : ℕ}
    {f : Sound} {front : List Link} {x : Link} {back : List Link} {plain fs : List ℕ} → d ≤ 16 → Inv k d root name running s b →
    Hit k d s ticket room marks f front x back → Ready k d s.slots f x plain fs → Spot k d root name s.slots b (number_in ticket) front x back (new_links k d x (number_in ticket) fs)
spot {k = k} {d = d} {root = root} {name = name} {s = s} {b = b} {ticket = ticket} {f = f} {front = front} {x = x} {back = back} {fs = fs} small v hit ready =
    let n = number_in ticket in
    let g = k.generator.expansion in
    let ys = siblings_from d x.node n in
    let vs = valued (value_from g d x.node x.value) ys in
    let new = links_in fs vs in
    let may = hit_may small v hit in
    let e = hit_chain small v hit in
    let c : map valued_of (front ++ (x ∷ back)) ≡ valued_cover g d root b.spent = rw e at v.covers in
    let q : valued_cover g d root b.spent ≡ map valued_of front ++ ((x.node, x.value) ∷ map valued_of back) = sym c ∙ map-append valued_of front (x ∷ back) in
    let many : length fs ≡ length vs =
    ready.many ∙ sym (length_valued (value_from g d x.node x.value) ys ∙ length_siblings x.node.depth (d - x.node.depth) x.node.first n) in
    let slots : slots_of new ≡ fs = links_slots fs vs many in
    let i : In x.node (cover d b.spent) = in_cover g d root b.spent x.node x.value (map valued_of front) (map valued_of back) q in
    record {
      fresh = record { stands = rw e at v.stands; free = rw (slots, ← hit.chain) ready.free };
      covers = c;
      rest = rw e at (v.rest refl);
      count = sym (length-map new (λ (x : Link). x.slot)) ∙ ap length slots ∙ ready.many;
      after = rw (map-append valued_of front (new ++ back), map-append valued_of new back, links_valued fs vs many)
          (sym (punctured_values g d root b.spent n x.node x.value (map valued_of front) (map valued_of back) q hit.covers));
      unspent = λ m. cover_free d b.spent x.node i n m hit.covers;
      issued = rw (file_is small v f may.read) at may.issued;
    }

-- one write of two more stands
take_one : (us : List Write) (v w : Write) (m : ℕ) → m ≡ suc (length us) → take m (us ++ (v ∷ w ∷ [])) ≡ us ++ (v ∷ [])
take_one us v w zero e = absurd (omega arith)
take_one [] v w (suc m) e = let z : m ≡ 0 = omega arith in rw z
take_one (u ∷ us) v w (suc m) e = ap (λ (l : List Write). u ∷ l) (take_one us v w m (omega arith))

-- ---- what holds, after
module _ {k : Kit} {d : ℕ} {root name : List ℕ} {s : State} {b : Book} (v : Inv k d root name running s b) where
  -- what is to be kept by a redemption that ends so
  abbrev Kept : List ℕ → Outcome → State → Bool → Type 0
  Kept ticket r t joined = Inv k d root name (mode_after r) t (fed b (redeem ticket r joined))

  -- a refusal leaves all as it is
  refused : (ticket : List ℕ) {room : ℕ} {r : Outcome} {state : List ℕ} {t : State} {joined : Bool} {h : Halt} → r ≡ Err h → Untouched s room state t → joined ≡ false → Kept ticket r t joined
  refused ticket {h = h} e u j = rw (e, u.state, j) (still (mode_after (Err h)) v)

  module _ (ticket : List ℕ) {front : List Link} {x : Link} {back new : List Link} (p : Spot k d root name s.slots b (number_in ticket) front x back new) where
    -- the number spent, and these opened
    more_spent : (opened : List ℕ) (m : Mode) (t : State) → Stands k d name b.issued t.slots (front ++ (new ++ back)) →
        (m ≡ running → t.power ≡ true) → (m ≡ running → RestBlank t.slots (front ++ (new ++ back))) → Distinct opened → ((i : ℕ) → In i opened → In i (number_in ticket ∷ b.spent)) →
        Inv k d root name m t (record { issued = b.issued; spent = number_in ticket ∷ b.spent; given = b.given; opened = opened })
    more_spent opened m t st q r a o = record {
      links = front ++ (new ++ back);
      stands = st;
      covers = p.after;
      counted = v.counted;
      below = λ i h. elim h [ inl e ↦ rw e p.issued | inr h ↦ v.below i h ];
      rooted = v.rooted;
      named = v.named;
      power = q;
      rest = r;
      once = a;
      opened = o;
      issued = v.issued;
      records = v.records;
      tickets = v.tickets;
    }

    -- a cut leaves the old chain where the join does not stand, and the new one where it does
    cut_short : {r : Outcome} {t : State} {joined : Bool} (m : ℕ) (h : Halt) →
        CutShort s.slots (redeem_writes s.slots front x back new) m h t.slots → r ≡ Err h → joined ≡ ltb (d - x.node.depth) m → Kept ticket r t joined
    cut_short {t = t} m h c e j =
        let w = d - x.node.depth in
        let ws = new_writes new (entry back 0) in
        let y = join_write s.slots front (entry new (entry back 0)) in
        let lw : length ws ≡ w = length_writes new (entry back 0) ∙ p.count in
        let la : length (redeem_writes s.slots front x back new) ≡ length ws + 2 = length-append ws (y ∷ erase_write x ∷ []) in
        elim (cases_lt w m) [
          | inl l ↦
              let st : Stands k d name b.issued t.slots (front ++ (new ++ back)) =
              elim (cases_lt (suc w) m) [
                | inl l2 ↦ rw (c.slots, take_all m (redeem_writes s.slots front x back new) (omega arith)) (erases p.fresh)
                | inr l2 ↦ rw (c.slots, take_one ws y (erase_write x) m (omega arith)) (joins p.fresh)
              ] in
              rw (e, c.halt, j, lt-ltb w m l) (more_spent b.opened cold t st (λ q. absurd (cc)) (λ q. absurd (cc)) v.once (λ i z. inr (v.opened i z)))
          | inr l ↦
              let st : Stands k d name b.issued t.slots (front ++ (x ∷ back)) = rw (c.slots, take-append-le m ws (y ∷ erase_write x ∷ []) (omega arith)) (unjoined p.fresh m) in
              rw (e, c.halt, j, le-ltb w m l) (moved v st p.covers (λ q. absurd (cc)) (λ q. absurd (cc)))
        ]

    -- all stands: the new chain, with zeros besides, and a number opened that was not spent before
    whole : {r : Outcome} {t : State} {joined : Bool} {a : ℕ × ℕ} →
        t.slots ≡ stood s.slots (redeem_writes s.slots front x back new) → t.power ≡ true → joined ≡ true → r ≡ Ok a → Kept ticket r t joined
    whole {t = t} e o j q =
        rw (q, j) (more_spent (number_in ticket ∷ b.opened) running t (rw e (erases p.fresh)) (λ z. o) (λ z. rw e (rest_blank p.fresh p.rest))
        (λ m. p.unspent (v.opened (number_in ticket) m), v.once) (λ i m. elim m [ inl z ↦ inl z | inr z ↦ inr (v.opened i z) ]))

pub redeem_keeps : {k : Kit} {d : ℕ} {root name : List ℕ} {s : State} {b : Book} {ticket : List ℕ} {room marks : ℕ} {r : Outcome} {state : List ℕ} {t : State} {joined : Bool} →
    d ≤ 16 → Inv k d root name running s b → Redeeming k d s ticket room marks r state t joined → Inv k d root name (mode_after r) t (fed b (redeem ticket r joined))
redeem_keeps {ticket = ticket} small v (Redeeming.declined h q e u j) = refused v ticket e u j
redeem_keeps {ticket = ticket} small v (Redeeming.spent f q none e u j) = refused v ticket e u j
redeem_keeps {ticket = ticket} small v (Redeeming.shut f front x back hit broken e u j) = refused v ticket e u j
redeem_keeps {ticket = ticket} small v (Redeeming.strange f front x back plain hit seals odd e u j) = refused v ticket e u j
redeem_keeps {ticket = ticket} small v (Redeeming.full f front x back plain hit seals good few e u j) = refused v ticket e u j
redeem_keeps {ticket = ticket} small v (Redeeming.cut f front x back plain fs m h hit seals ready c e o z j) = cut_short v ticket (spot small v hit ready) m h c e j
redeem_keeps {ticket = ticket} small v (Redeeming.opened f front x back plain fs hit seals ready q o j e z) = whole v ticket (spot small v hit ready) q o j e.is
