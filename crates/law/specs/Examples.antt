-- Worked examples, as one list: widths, covers and lifetimes by the definitions, and a puncture on a narrow device.
use Rattle.std.specs.Prelude.{◌≡◌, ℕ, ◌≤◌, Bool, List, [], ◌∷◌, length, Ok, Err}
use Rattle.refusal.specs.declared.Refusal.TheVariants.{NoFreeSlot}
use Rattle.fault.specs.Faults.{placed}
use Rattle.device.specs.Effects.{State}
use Rattle.marks.specs.Rows.{room_of}
use Rattle.session.specs.Limits.{max_record}
use Rattle.session.specs.Laws.{LifetimeExamples}
use Rattle.tree.specs.Nodes.{tree_levels}
use Rattle.tree.specs.Cover.{In}
use Rattle.tree.specs.Examples.{Examples}
use Rattle.generator.specs.Bytes.{value_length}
use Rattle.ticket.specs.Limits.{name_length}
use Rattle.calls.specs.Kits.{Kit, Lawful}
use Rattle.calls.specs.Calls.{Outcome, Redeeming}
use Rattle.calls.specs.Books.{Given, Book}
use Rattle.calls.specs.Pasts.{running, Past}
use Rattle.law.specs.Law.{Uncut}
use Rattle.law.specs.GoingOn.{RedeemOutcome}

-- a running server on 18 slots, with 5 numbers issued and number 0 spent
pub record Narrow (k : Kit) (root name : List ℕ) (s : State) (b : Book) : Type 0 where
  pub past : Past k tree_levels root name running s b
  pub slots : length s.slots ≡ 18
  pub issued : b.issued ≡ 5
  pub spent : b.spent ≡ 0 ∷ []

-- on each narrow server redeeming the ticket of 2 needs one free slot, and passes;
abbrev pub TwoPasses : Type 0
TwoPasses = (k : Kit) (root name : List ℕ) (s : State) (b : Book) → Lawful k → Narrow k root name s b → (g : Given) → In g b.given → g.number ≡ 2 →
    (room marks : ℕ) → max_record ≤ room → room_of 18 ≤ marks →
    (r : Outcome) (state : List ℕ) (t : State) (joined : Bool) → Redeeming k tree_levels s g.ticket room marks r state t joined → Uncut r → r ≡ Ok (length g.state, 1)

-- redeeming the ticket of 4 needs two, and is declined for want of slots
abbrev pub FourDeclined : Type 0
FourDeclined = (k : Kit) (root name : List ℕ) (s : State) (b : Book) → Lawful k → Narrow k root name s b → (g : Given) → In g b.given → g.number ≡ 4 →
    (room marks : ℕ) → max_record ≤ room → room_of 18 ≤ marks →
    (r : Outcome) (state : List ℕ) (t : State) (joined : Bool) → Redeeming k tree_levels s g.ticket room marks r state t joined → r ≡ Err (placed NoFreeSlot 4)

-- a narrow server that has given both tickets; the one is redeemed, the other declined
pub record NarrowServer (k : Kit) (root name : List ℕ) : Type 0 where
  pub state : State
  pub book : Book
  pub narrow : Narrow k root name state book
  pub two : Given
  pub two_given : In two book.given
  pub two_number : two.number ≡ 2
  pub four : Given
  pub four_given : In four book.given
  pub four_number : four.number ≡ 4
  pub passes : (room marks : ℕ) → max_record ≤ room → room_of 18 ≤ marks →
      (o : RedeemOutcome k tree_levels state two.ticket room marks) × (o.outcome ≡ Ok (length two.state, 1))
  pub declined : (room marks : ℕ) → max_record ≤ room → room_of 18 ≤ marks →
      (o : RedeemOutcome k tree_levels state four.ticket room marks) × (o.outcome ≡ Err (placed NoFreeSlot 4))

pub record NarrowExample : Type 0 where
  -- there is a lawful kit, and with each such kit, root value and key name a narrow server
  pub kit : (k : Kit) × Lawful k
  pub server : (k : Kit) (root name : List ℕ) → Lawful k → length root ≡ value_length → length name ≡ name_length → NarrowServer k root name
  pub two : TwoPasses
  pub four : FourDeclined

pub record AllExamples : Type 0 where
  pub covers : Examples
  pub lifetimes : LifetimeExamples
  pub narrow : NarrowExample
