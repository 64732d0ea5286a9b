-- A past can always go on, by the outcomes that calls have.
use Rattle.std.proofs.Common.{◌≡◌, ℕ, ◌≤◌, true, List, length, Ok, refl, arith}
use Rattle.std.proofs.lemmas.Bool.{le-leb}
use Rattle.device.specs.Effects.{Slots, State}
use Rattle.session.proofs.Trip.{most}
use Rattle.tree.specs.Nodes.{tree_levels, Covers}
use Rattle.tree.specs.Cover.{In}
use Rattle.tree.specs.Values.{key_of, key_from}
use Rattle.marks.specs.Rows.{room_of}
use Rattle.layout.specs.declared.Head.{Head}
use Rattle.chain.specs.Reading.{Link, file_of}
use Rattle.ticket.specs.Limits.{name_length}
use Rattle.generator.specs.Bytes.{value_length}
use Rattle.calls.specs.Kits.{Kit, numbers_in}
use Rattle.ticket.specs.Parts.{number_in}
use Rattle.steps.specs.Writes.{stood}
use Rattle.calls.specs.Files.{make_writes, sweep_writes}
use Rattle.calls.specs.Calls.{count_fits, min_slots, max_slots, powered, Making, Reopening}
use Rattle.calls.specs.Books.{Given, Book, fresh_book, issue, redeem, reopen, fed}
use Rattle.calls.specs.Pasts.{running, cold, Past, issued, redeemed, reopened}
use Rattle.law.specs.GoingOn.{IssueOutcome, RedeemOutcome, IsSealed, Opens, PastsGoOn}
use Rattle.law.proofs.Invariant.{file_for, Inv}
use Rattle.law.proofs.TicketParts.{state_most, seals_state}
use Rattle.law.proofs.Links.{key_is}
use Rattle.law.proofs.ReadsBack.{links_read}
use Rattle.law.proofs.Readings.{entry_open, is_powered, inv_read}
use Rattle.law.proofs.PastKeeps.{small, holding}
use Rattle.law.proofs.Telling.{uncut_running}
use Rattle.law.proofs.Outcomes.{outcomes}

pub begins : (k : Kit) (root name : List ℕ) (s : State) → length root ≡ value_length → length name ≡ name_length →
    min_slots tree_levels ≤ length s.slots → length s.slots ≤ max_slots →
    (t : Slots) × Making k tree_levels s root name (Ok tt) (powered t) true × Past k tree_levels root name running (powered t) fresh_book
begins k root name s lr ln least most =
    let t = stood s.slots (make_writes k tree_levels s.slots root name) in
    let fits : count_fits tree_levels s.slots ≡ true = rw (le-leb (min_slots tree_levels) (length s.slots) least, le-leb (length s.slots) max_slots most) in
    let made = Making.made fits refl refl refl refl in
    (t, made, Past.made s (Ok tt) (powered t) lr ln made)

module _ (k : Kit) (root name : List ℕ) (s : State) (b : Book) (p : Past k tree_levels root name running s b) where
  v : Inv k tree_levels root name running s b
  v = holding p

  pub issues : (plain : List ℕ) (room marks : ℕ) →
      (o : IssueOutcome k tree_levels s plain room marks) × Past k tree_levels root name running o.after (fed b (issue plain o.outcome o.ticket o.headed))
  issues plain room marks =
      let o : IssueOutcome k tree_levels s plain room marks = rw (is_powered small v) (outcomes.issue k tree_levels s.slots plain room marks) in
      let q = issued s b plain room marks o.outcome o.ticket o.after o.headed p o.call in
      (o, rw (uncut_running o.outcome o.uncut) at q)

  pub redeems : (ticket : List ℕ) (room marks : ℕ) → Opens k (key_of k.generator.expansion tree_levels root (number_in ticket)) ticket →
      (o : RedeemOutcome k tree_levels s ticket room marks) × Past k tree_levels root name running o.after (fed b (redeem ticket o.outcome o.joined))
  redeems ticket room marks known =
      let n = number_in ticket in
      let told : (h : Head) (xs : List Link) (x : Link) → file_of tree_levels (numbers_in k) s.slots ≡ Ok (h, xs) → In x xs → Covers tree_levels x.node n →
      Opens k (key_from k.generator.expansion tree_levels x.node x.value n) ticket =
      λ h xs x e i c. rw (key_is v x n (rw (links_read small v e) at i) c) known in
      let o : RedeemOutcome k tree_levels s ticket room marks = rw (is_powered small v) (outcomes.redeem k tree_levels s.slots ticket room marks told) in
      let q = redeemed s b ticket room marks o.outcome o.state o.after o.joined p o.call in
      (o, rw (uncut_running o.outcome o.uncut) at q)

  pub sealed : (g : Given) → In g b.given → IsSealed k (key_of k.generator.expansion tree_levels root (number_in g.ticket)) g.ticket
  sealed g i = (g.state, state_most small v g i, seals_state small v g i)

reopens : (k : Kit) (root name : List ℕ) (s : State) (b : Book) → Past k tree_levels root name cold s b → (marks : ℕ) → room_of (length s.slots) ≤ marks →
    (t : Slots) × Reopening k tree_levels s marks (Ok tt) (powered t) × Past k tree_levels root name running (powered t) (fed b (reopen (Ok tt)))
reopens k root name s b p marks enough =
    let v = holding p in
    let t = stood s.slots (sweep_writes s.slots v.links) in
    let swept = Reopening.swept (file_for k name b.issued v.links) (entry_open tree_levels s.slots 0 0 marks (omega arith) enough v.stands.fits) (inv_read small v) refl refl refl in
    (t, swept, reopened s b marks (Ok tt) (powered t) p swept)

pub pasts_go_on : PastsGoOn
pasts_go_on = record { make = begins; issue = issues; redeem = redeems; given = sealed; reopen = reopens }
