-- Whatever is asked of a device whose power is on has an outcome without a cut, so that pasts can always go on.
use Rattle.std.specs.Prelude.{◌≡◌, ℕ, ◌≤◌, Bool, true, ◌⊎◌, List, length, Ok, Result}
use Rattle.fault.specs.declared.Halt.{Halt}
use Rattle.device.specs.Effects.{Slots, State}
use Rattle.session.specs.Limits.{max_record}
use Rattle.tree.specs.Nodes.{tree_levels, Covers}
use Rattle.tree.specs.Cover.{In}
use Rattle.tree.specs.Values.{key_of, key_from}
use Rattle.marks.specs.Rows.{room_of}
use Rattle.chain.specs.Reading.{Link, file_of}
use Rattle.layout.specs.declared.Head.{Head}
use Rattle.generator.specs.Bytes.{value_length}
use Rattle.ticket.specs.Limits.{name_length}
use Rattle.calls.specs.Kits.{Kit, numbers_in}
use Rattle.ticket.specs.Parts.{number_in, heading_in, sealed_in}
use Rattle.calls.specs.Calls.{Outcome, min_slots, max_slots, powered, Making, Issuing, Redeeming, Reopening}
use Rattle.calls.specs.Books.{Given, Book, fresh_book, issue, redeem, reopen, fed}
use Rattle.calls.specs.Pasts.{running, cold, Past}
use Rattle.law.specs.Law.{Uncut}

-- ---- outcomes without a cut
pub record MakeOutcome (k : Kit) (d : ℕ) (s : State) (root name : List ℕ) : Type 0 where
  pub outcome : Result (Unit {0}) Halt
  pub after : State
  pub headed : Bool
  pub call : Making k d s root name outcome after headed
  pub uncut : Uncut outcome

pub record ReopenOutcome (k : Kit) (d : ℕ) (s : State) (marks : ℕ) : Type 0 where
  pub outcome : Result (Unit {0}) Halt
  pub after : State
  pub call : Reopening k d s marks outcome after
  pub uncut : Uncut outcome

pub record IssueOutcome (k : Kit) (d : ℕ) (s : State) (plain : List ℕ) (room marks : ℕ) : Type 0 where
  pub outcome : Outcome
  pub ticket : List ℕ
  pub after : State
  pub headed : Bool
  pub call : Issuing k d s plain room marks outcome ticket after headed
  pub uncut : Uncut outcome

pub record RedeemOutcome (k : Kit) (d : ℕ) (s : State) (ticket : List ℕ) (room marks : ℕ) : Type 0 where
  pub outcome : Outcome
  pub state : List ℕ
  pub after : State
  pub joined : Bool
  pub call : Redeeming k d s ticket room marks outcome state after joined
  pub uncut : Uncut outcome

-- some plain is sealed in the ticket under the key; and it is told whether one is, as a sealer tells when it opens
abbrev pub IsSealed : Kit → List ℕ → List ℕ → Type 0
IsSealed k key ticket = (plain : List ℕ) × (length plain ≤ max_record) × (k.sealer.sealing key (heading_in ticket) plain ≡ sealed_in ticket)

abbrev pub Opens : Kit → List ℕ → List ℕ → Type 0
Opens k key ticket = IsSealed k key ticket ⊎ (IsSealed k key ticket → ⊥)

-- of any kit, in a tree of any depth, whatever the slots hold; issues and redemptions with the power on
pub record CallsHaveOutcomes : Type 0 where
  pub make : (k : Kit) (d : ℕ) (s : State) (root name : List ℕ) → MakeOutcome k d s root name
  pub reopen : (k : Kit) (d : ℕ) (s : State) (marks : ℕ) → ReopenOutcome k d s marks
  pub issue : (k : Kit) (d : ℕ) (s : Slots) (plain : List ℕ) (room marks : ℕ) → IssueOutcome k d (powered s) plain room marks
  pub redeem : (k : Kit) (d : ℕ) (s : Slots) (ticket : List ℕ) (room marks : ℕ) →
      ((h : Head) (xs : List Link) (x : Link) → file_of d (numbers_in k) s ≡ Ok (h, xs) → In x xs → Covers d x.node (number_in ticket) →
      Opens k (key_from k.generator.expansion d x.node x.value (number_in ticket)) ticket) →
      RedeemOutcome k d (powered s) ticket room marks

-- ---- longer pasts
pub record PastsGoOn : Type 0 where
  -- a past begins on each device of neither too few slots nor too many
  pub make : (k : Kit) (root name : List ℕ) (s : State) → length root ≡ value_length → length name ≡ name_length →
      min_slots tree_levels ≤ length s.slots → length s.slots ≤ max_slots →
      (t : Slots) × Making k tree_levels s root name (Ok tt) (powered t) true × Past k tree_levels root name running (powered t) fresh_book
  -- a running server issues, or declines to,
  pub issue : (k : Kit) (root name : List ℕ) (s : State) (b : Book) → Past k tree_levels root name running s b → (plain : List ℕ) (room marks : ℕ) →
      (o : IssueOutcome k tree_levels s plain room marks) × Past k tree_levels root name running o.after (fed b (issue plain o.outcome o.ticket o.headed))
  -- and redeems, or declines to, where it is told whether a plain is sealed in the ticket,
  pub redeem : (k : Kit) (root name : List ℕ) (s : State) (b : Book) → Past k tree_levels root name running s b → (ticket : List ℕ) (room marks : ℕ) →
      Opens k (key_of k.generator.expansion tree_levels root (number_in ticket)) ticket →
      (o : RedeemOutcome k tree_levels s ticket room marks) × Past k tree_levels root name running o.after (fed b (redeem ticket o.outcome o.joined))
  -- as one is in each ticket that was given
  pub given : (k : Kit) (root name : List ℕ) (s : State) (b : Book) → Past k tree_levels root name running s b → (g : Given) → In g b.given →
      IsSealed k (key_of k.generator.expansion tree_levels root (number_in g.ticket)) g.ticket
  -- a cold server is reopened
  pub reopen : (k : Kit) (root name : List ℕ) (s : State) (b : Book) → Past k tree_levels root name cold s b → (marks : ℕ) → room_of (length s.slots) ≤ marks →
      (t : Slots) × Reopening k tree_levels s marks (Ok tt) (powered t) × Past k tree_levels root name running (powered t) (fed b (reopen (Ok tt)))
