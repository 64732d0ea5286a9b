-- A past on 18 slots: a make, five issues, and the redemption of the ticket of number 0, none of them cut.
use Rattle.std.proofs.Common.{◌≡◌, ℕ, suc, ◌^◌, ◌<◌, Bool, true, List, [], ◌∷◌, ◌++◌, length, take, Ok, Result, refl, ap, ◌∙◌, subst, inl, inr, arith}
use Rattle.std.proofs.lemmas.Bool.{cases_lt, lt-ltb, le-leb}
use Rattle.std.proofs.Math.ListN.{replicate}
use Rattle.octets.specs.Buffers.{zeros}
use Rattle.octets.specs.Fields.{number_of}
use Rattle.fault.specs.declared.Halt.{Halt}
use Rattle.device.specs.Effects.{blank, State}
use Rattle.session.specs.Limits.{max_record}
use Rattle.session.specs.Records.{is_record, record_suite, laid_out}
use Rattle.tree.specs.Nodes.{tree_levels, root_node}
use Rattle.tree.specs.Cover.{In, cover}
use Rattle.tree.proofs.Computed.{examples}
use Rattle.marks.specs.Rows.{room_of}
use Rattle.ticket.specs.Limits.{name_length}
use Rattle.generator.specs.Bytes.{value_length}
use Rattle.calls.specs.Kits.{Kit, Lawful}
use Rattle.ticket.specs.Limits.{max_ticket}
use Rattle.calls.specs.Calls.{Outcome, powered, Making, Redeeming, spent, shut, strange, full, opened}
use Rattle.calls.specs.Books.{Given, Book, fresh_book, issue, redeem, fed}
use Rattle.calls.specs.Pasts.{running, Past}
use Rattle.law.specs.Examples.{Narrow, NarrowServer}
use Rattle.law.specs.GoingOn.{IssueOutcome, RedeemOutcome}
use Rattle.steps.proofs.Plans.{length_stood}
use Rattle.law.proofs.FromInv.{once_law}
use Rattle.law.proofs.Telling.{view_of, issue_told}
use Rattle.law.proofs.Told.{issue_bar, barred, given}
use Rattle.law.proofs.PastKeeps.{wrote_length, issue_wrote, redeem_wrote, small, holding}
use Rattle.law.proofs.TicketParts.{number_is}
use Rattle.law.proofs.Narrow.{server_of}
use Rattle.law.proofs.GoingOn.{begins, issues, redeems, sealed}

-- a record of the shortest, which lasts a second
shortest : List ℕ
shortest = 19 ∷ 1 ∷ (zeros 11 ++ (1 ∷ zeros 41))

shortest_record : is_record shortest ≡ true
unfolding shortest is_record record_suite laid_out number_of
shortest_record = refl

-- ---- what stands after each call
make_length : {k : Kit} {d : ℕ} {s : State} {root name : List ℕ} {r : Result (Unit {0}) Halt} {t : State} {headed : Bool} →
    Making k d s root name r t headed → length t.slots ≡ length s.slots
make_length (Making.declined f e z q) = rw z
make_length (Making.stopped f e z p q) = ap length z
make_length (Making.cut m h f c e p q) = rw (c.slots, length_stood)
make_length (Making.made f z e p q) = rw (z, length_stood)

-- n numbers issued on 18 slots, none of them spent, and the ticket of each given
record Shelf (k : Kit) (root name : List ℕ) (n : ℕ) : Type 0 where
  s : State
  b : Book
  past : Past k tree_levels root name running s b
  slots : length s.slots ≡ 18
  issued : b.issued ≡ n
  spent : b.spent ≡ []
  tickets : (m : ℕ) → m < n → (g : Given) × In g b.given × (g.number ≡ m)

empty : (k : Kit) (root name : List ℕ) → length root ≡ value_length → length name ≡ name_length → Shelf k root name 0
empty k root name lr ln =
    let m = begins k root name (powered (replicate 18 blank)) lr ln (omega arith) (omega arith) in
    record { s = powered m.0; b = fresh_book; past = m.2; slots = make_length m.1; issued = refl; spent = refl; tickets = λ i q. absurd (omega arith) }

module _ {k : Kit} {root name : List ℕ} {n : ℕ} (few : n < 2 ^ tree_levels) (w : Shelf k root name n) where
  abbrev marks : ℕ
  marks = room_of (length w.s.slots)

  -- nothing stops an issue of a record
  bar_is : issue_bar (view_of k tree_levels name w.s.slots w.b) shortest max_ticket marks ≡ Ok tt
  bar_is = grind (arith, le-leb, shortest_record, lt-ltb)

  -- an issue that gave a ticket
  handed : (o : IssueOutcome k tree_levels w.s shortest max_ticket marks) → Past k tree_levels root name running o.after (fed w.b (issue shortest o.outcome o.ticket o.headed)) →
      {a : ℕ × ℕ} → o.outcome ≡ Ok a → o.headed ≡ true → Shelf k root name (suc n)
  handed o p {a = a} e j = record {
    s = o.after;
    b = fed w.b (issue shortest (Ok a) o.ticket true);
    past = rw (e, j) at p;
    slots = wrote_length (issue_wrote (holding w.past) o.call) ∙ w.slots;
    issued = omega (arith, w.issued);
    spent = w.spent;
    tickets = λ m l. elim (cases_lt m n) [
      | inl less ↦ let t = w.tickets m less in (t.0, inr t.1, t.2)
      | inr more ↦ (record { number = w.b.issued; ticket = take a.0 o.ticket; state = shortest }, inl refl, omega (arith, w.issued))
    ];
  }

  next : Shelf k root name (suc n)
  next =
      let g = issues k root name w.s w.b w.past shortest max_ticket marks in
      let bar = bar_is in
      elim (issue_told small (holding w.past) shortest max_ticket marks g.0.uncut g.0.call) [
        | barred h e q ↦ absurd (cc)
        | given x e i c q ↦ handed g.0 g.1 q.outcome q.counts
      ]

-- ---- the ticket of number 0 is redeemed
-- a redemption that yields a state has its join standing
ok_joined : {k : Kit} {d : ℕ} {s : State} {ticket : List ℕ} {room marks : ℕ} {r : Outcome} {state : List ℕ} {t : State} {joined : Bool} {a : ℕ × ℕ} →
    Redeeming k d s ticket room marks r state t joined → r ≡ Ok a → joined ≡ true
ok_joined (Redeeming.declined h v e u j) q = cc
ok_joined (spent f v n e u j) q = cc
ok_joined (shut f front x back hit n e u j) q = cc
ok_joined (strange f front x back plain hit p odd e u j) q = cc
ok_joined (full f front x back plain hit p is few e u j) q = cc
ok_joined (Redeeming.cut f front x back plain fs m h hit p ready c e o z j) q = cc
ok_joined (opened f front x back plain fs hit p ready z o j e l) q = j

module _ {k : Kit} {root name : List ℕ} (lawful : Lawful k) (w : Shelf k root name 5) where
  -- the ticket of number 0, and a redemption of it
  g : Given
  g = (w.tickets 0 (omega arith)).0

  g_in : In g w.b.given
  unfolding g
  g_in = (w.tickets 0 (omega arith)).1

  g_zero : g.number ≡ 0
  unfolding g
  g_zero = (w.tickets 0 (omega arith)).2

  done : (o : RedeemOutcome k tree_levels w.s g.ticket max_record (room_of (length w.s.slots))) × Past k tree_levels root name running o.after (fed w.b (redeem g.ticket o.outcome o.joined))
  done = redeems k root name w.s w.b w.past g.ticket max_record (room_of (length w.s.slots)) (inl (sealed k root name w.s w.b w.past g g_in))

  root_only : cover tree_levels w.b.spent ≡ root_node ∷ []
  root_only = ap (cover tree_levels) w.spent ∙ examples.none_spent

  -- once it has yielded its state
  after : {a : ℕ × ℕ} → done.0.outcome ≡ Ok a → NarrowServer k root name
  after {a = a} e =
      let o = done.0 in
      let p = done.1 in
      let two = w.tickets 2 (omega arith) in
      let four = w.tickets 4 (omega arith) in
      let narrow : Narrow k root name o.after (fed w.b (redeem g.ticket (Ok a) true)) = record {
        past = rw (e, ok_joined o.call e) at p;
        slots = wrote_length (redeem_wrote small (holding w.past) o.call) ∙ w.slots;
        issued = w.issued;
        spent = rw (number_is small (holding w.past) g g_in, g_zero, w.spent);
      } in
      server_of lawful o.after (fed w.b (redeem g.ticket (Ok a) true)) narrow two.0 two.1 two.2 four.0 four.1 four.2

  reached : NarrowServer k root name
  reached =
      let o = done.0 in
      let many = ap length root_only in
      after ((once_law lawful small (holding w.past)).opens refl g g_in (λ i. subst (λ (l : List ℕ). In g.number l) w.spent i) root_node (rw root_only (inl refl)) (omega arith, omega (arith, g_zero))
      (omega (arith, w.slots)) max_record (room_of (length w.s.slots)) (omega arith) (omega arith) o.outcome o.state o.after o.joined o.call o.uncut).0

pub narrow_server : (k : Kit) (root name : List ℕ) → Lawful k → length root ≡ value_length → length name ≡ name_length → NarrowServer k root name
narrow_server k root name lawful lr ln =
    reached lawful (next (omega arith) (next (omega arith) (next (omega arith) (next (omega arith) (next (omega arith) (empty k root name lr ln))))))
