-- What an issue does, as one word; what is given to its last steps, and how they end.
use Rattle.std.specs.Prelude.{◌≡◌, ℕ, ◌^◌, ◌<◌, ◌≤◌, Bool, true, false, List, [], ◌∷◌, length, Err, slice_index_or}
use Rattle.octets.specs.Buffers.{filled}
use Rattle.device.specs.Effects.{Slots, State}
use Rattle.fault.specs.declared.Halt.{Halt}
use Rattle.layout.specs.declared.Head.{Head}
use Rattle.layout.specs.Records.{value_of}
use Rattle.session.specs.Limits.{max_record}
use Rattle.tree.specs.Nodes.{tree_levels, Above}
use Rattle.chain.specs.declared.Found.{Found}
use Rattle.chain.specs.Reading.{Link}
use Rattle.calls.specs.Kits.{Kit}
use Rattle.ticket.specs.Limits.{max_ticket}
use Rattle.steps.specs.Writes.{stood, CutShort}
use Rattle.calls.specs.Files.{issue_write}
use Rattle.calls.specs.Calls.{Outcome, Finished, issued_ticket, Issuing}

-- the record that was found covers the next number, the plain is no longer than a record, and the buffer has room
pub record Issuable (s : State) (h : Head) (f : Found) (plain : List ℕ) (room : ℕ) : Type 0 where
  pub power : s.power ≡ true
  pub within : f.slot < length s.slots
  pub under : Above tree_levels f.node h.issued
  pub left : h.issued < 2 ^ tree_levels
  pub short : length plain ≤ max_record
  pub long : max_ticket ≤ room

-- the record as a link of the chain
abbrev pub link_of : Slots → Found → Link
link_of s f = record { slot = f.slot; node = f.node; value = value_of (slice_index_or s f.slot []) }

-- the head's write is cut; or it is done and the ticket is there
pub data IssueEnds (k : Kit) (s : Slots) (h : Head) (f : Found) (plain : List ℕ) (room : ℕ) (r : Outcome) (ticket : List ℕ) (t : State) : Type 0 where
  ended : (m : ℕ) (e : Halt) → CutShort s (issue_write s h ∷ []) m e t.slots → r ≡ Err e → t.power ≡ false → IssueEnds k s h f plain room r ticket t
  gave : Finished tree_levels f.node h.issued (length (issued_ticket k tree_levels h (link_of s f) plain)) r → ticket ≡ filled (issued_ticket k tree_levels h (link_of s f) plain) room →
      t.slots ≡ stood s (issue_write s h ∷ []) → t.power ≡ true → IssueEnds k s h f plain room r ticket t

-- `Issuing`, whether or not the head's write stands. The check does not open it, so it finds what it knows of issuing by it.
unfoldable pub Issues : Kit → ℕ → State → List ℕ → ℕ → ℕ → Outcome → List ℕ → State → Type 0
Issues k d s plain room marks r ticket t = (headed : Bool) × Issuing k d s plain room marks r ticket t headed
