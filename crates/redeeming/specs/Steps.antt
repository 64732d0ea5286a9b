-- The steps of a redemption, each by what it answers.
use Rattle.std.specs.Prelude.{◌≡◌, ℕ, ◌<◌, Bool, true, false, ◌⊎◌, List, length, Option, Some, None, Ok, Err, Result}
use Rattle.octets.specs.Buffers.{zeros, filled}
use Rattle.refusal.specs.declared.Refusal.TheVariants.{SealBroken, OpenedNotARecord}
use Rattle.device.specs.Effects.{State}
use Rattle.fault.specs.declared.Halt.{Halt}
use Rattle.fault.specs.Faults.{placed}
use Rattle.session.specs.Limits.{max_record}
use Rattle.session.specs.Records.{is_record}
use Rattle.sealer.specs.Outcomes.{PlainOf, NoPlain}
use Rattle.tree.specs.Nodes.{Above}
use Rattle.tree.specs.Values.{Expansion, key_from, Counted, sibling_values}
use Rattle.generator.specs.Descent.{row_of}
use Rattle.chain.specs.declared.Found.{Found}
use Rattle.chain.specs.declared.Survey.{Survey}
use Rattle.chain.specs.Reading.{Link, link_at, file_of, Sound}
use Rattle.chain.specs.Listing.{find_in, marked_all}
use Rattle.calls.specs.Kits.{Kit, numbers_in}
use Rattle.ticket.specs.Parts.{number_in}
use Rattle.calls.specs.Calls.{Outcome, Admitted, read_by, redeemable, Redeeming, kept}

-- the number that a ticket asks for, where there is a ticket
abbrev pub asked_by : Option (List ℕ) → Option ℕ
asked_by (Some ticket) = Some (number_in ticket)
asked_by None = None

-- a check that passes leaves the file
abbrev pub passing : Result (Unit {0}) Halt → Sound → Result Sound Halt
passing (Ok u) f = Ok f
passing (Err h) f = Err h

-- what is known of a file that was read for a ticket, with m bytes of marks
pub record Known (k : Kit) (d : ℕ) (s : State) (ticket : List ℕ) (m : ℕ) (v : Survey) (marks : List ℕ) (f : Sound) : Type 0 where
  pub passed : redeemable k ticket (read_by k d s) ≡ Ok f
  pub power : s.power ≡ true
  pub reads : file_of d (numbers_in k) s.slots ≡ Ok f
  pub many : v.length ≡ length f.1
  pub finds : v.found ≡ find_in d (number_in ticket) 0 f.1
  pub marked : marks ≡ marked_all (zeros m) f.1

-- the ticket as it was seen, with what is known of the file; or what stops the redemption here
abbrev pub Surveying : Kit → ℕ → State → List ℕ → ℕ → Result (List ℕ × Survey) Halt → List ℕ → Type 0
Surveying k d s ticket m (Ok (of, v)) marks = (of ≡ ticket) × (f : Sound) × Known k d s ticket m v marks f
Surveying k d s ticket m (Err h) marks = redeemable k ticket (read_by k d s) ≡ Err h

-- the record x, which stands over n, was found
pub record Met (d : ℕ) (s : State) (found : Found) (n : ℕ) (x : Link) : Type 0 where
  pub link : x ≡ link_at s.slots x.slot
  pub slot : found.slot ≡ x.slot
  pub node : found.node ≡ x.node
  pub within : x.slot < length s.slots
  pub power : s.power ≡ true
  pub above : Above d x.node n

-- n's key follows from it by the generator calls counted, and the siblings' values are kept in a row
abbrev pub Derived : Expansion → ℕ → ℕ → Link → Result ℕ Halt → List ℕ → List (List ℕ) → Type 0
Derived e d n x (Ok calls) key row = Counted d x.node n calls × (key ≡ key_from e d x.node x.value n) × (row ≡ row_of (sibling_values e d x.node x.value n))
Derived e d n x (Err h) key row = ⊥

-- opening sealed bytes for number n: a record; or no plain, or a plain that is no record
abbrev pub Unsealing : (List ℕ → List ℕ) → List ℕ → ℕ → ℕ → Result ℕ Halt → List ℕ → Type 0
Unsealing sealing sealed n room (Ok l) out =
    (plain : List ℕ) × PlainOf sealing sealed plain × (is_record plain ≡ true) × (l ≡ length plain) × (out ≡ filled plain room)
Unsealing sealing sealed n room (Err h) out =
    (NoPlain sealing sealed × (h ≡ placed SealBroken n))
    ⊎ ((plain : List ℕ) × PlainOf sealing sealed plain × (is_record plain ≡ false) × (h ≡ placed OpenedNotARecord n))

-- `Redeeming`, whether or not the join stands. The check does not open it, so it finds what it knows of redeeming by it.
unfoldable pub Redeems : Kit → ℕ → State → List ℕ → ℕ → ℕ → Outcome → List ℕ → State → Type 0
Redeems k d s ticket room marks r state t = (joined : Bool) × Redeeming k d s ticket room marks r state t joined

-- the last steps of a redemption, on a device of so many slots: what they answer and leave, given that nothing stopped the call so far
abbrev pub Spending : Kit → ℕ → State → List ℕ → ℕ → ℕ → Survey → List ℕ → Outcome → List ℕ → State → Type 0
Spending k d s ticket room count v marks r state t =
    Admitted d s.slots max_record room (length marks) (Ok count) → (f : Sound) → Known k d s ticket (length marks) v marks f →
    Redeems k d s ticket room (length marks) r (kept r room state) t
