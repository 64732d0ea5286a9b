-- The plain book of a tree: what was issued, spent, given and opened, as the calls tell it.
use Rattle.std.specs.Prelude.{ℕ, ◌+◌, Bool, true, false, List, [], ◌∷◌, take, Ok, Err, Result}
use Rattle.fault.specs.declared.Halt.{Halt}
use Rattle.ticket.specs.Parts.{number_in}
use Rattle.calls.specs.Calls.{Outcome}

-- a ticket that was given: its number, its bytes, and its own state
pub record Given : Type 0 where
  pub number : ℕ
  pub ticket : List ℕ
  pub state : List ℕ

pub record Book : Type 0 where
  -- how many numbers are issued
  pub issued : ℕ
  -- the numbers that are spent
  pub spent : List ℕ
  -- the tickets that were given
  pub given : List Given
  -- the number of each redemption that yielded a state, once for each
  pub opened : List ℕ

-- nothing issued, nothing spent
abbrev pub fresh_book : Book
fresh_book = record { issued = 0; spent = []; given = []; opened = [] }

-- a call as the book is fed with it: its arguments, its answer with the buffer that it filled, and whether the write that counts stands
pub data Deed : Type 0 where
  issue : (plain : List ℕ) (r : Outcome) (ticket : List ℕ) (headed : Bool) → Deed
  redeem : (ticket : List ℕ) (r : Outcome) (joined : Bool) → Deed
  close : Deed
  reopen : (r : Result (Unit {0}) Halt) → Deed

abbrev pub raised : Bool → ℕ → ℕ
raised true n = n + 1
raised false n = n

abbrev pub noted : Bool → ℕ → List ℕ → List ℕ
noted true n ns = n ∷ ns
noted false n ns = ns

-- the tickets once an issue is answered: one that it handed out is noted, and its state is the plain that was to be sealed
abbrev pub with_ticket : Outcome → ℕ → List ℕ → List ℕ → List Given → List Given
with_ticket (Ok a) n buffer plain gs = record { number = n; ticket = take a.0 buffer; state = plain } ∷ gs
with_ticket (Err h) n buffer plain gs = gs

abbrev pub with_opened : Outcome → ℕ → List ℕ → List ℕ
with_opened (Ok a) n ns = n ∷ ns
with_opened (Err h) n ns = ns

-- The book after a call. Issuing counts one more number once the head's write stands; redeeming notes the number that its ticket names as
-- spent once the join stands. A ticket handed out and a number opened are noted only where the call was not refused. The other calls
-- change nothing.
abbrev pub fed : Book → Deed → Book
fed b (issue plain r ticket headed) = record {
  issued = raised headed b.issued;
  spent = b.spent;
  given = with_ticket r b.issued ticket plain b.given;
  opened = b.opened;
}
fed b (redeem ticket r joined) = record {
  issued = b.issued;
  spent = noted joined (number_in ticket) b.spent;
  given = b.given;
  opened = with_opened r (number_in ticket) b.opened;
}
fed b close = b
fed b (reopen r) = b
