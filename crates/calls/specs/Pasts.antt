-- The pasts of a tree: a make whose head write stands, and then any calls, refused and cut ones too, each on what its predecessor left.
use Rattle.std.specs.Prelude.{◌≡◌, ℕ, Bool, true, false, cond, List, length, Ok, Err, Result}
use Rattle.refusal.specs.declared.Refusal.{Refusal}
use Rattle.refusal.specs.declared.Refusal.TheVariants.{NoPower}
use Rattle.fault.specs.declared.Halt.{Halt}
use Rattle.device.specs.Effects.{State}
use Rattle.generator.specs.Bytes.{value_length}
use Rattle.ticket.specs.Limits.{name_length}
use Rattle.calls.specs.Kits.{Kit}
use Rattle.calls.specs.Calls.{Outcome, Making, Issuing, Redeeming, Reopening}
use Rattle.calls.specs.Books.{Book, fresh_book, issue, redeem, close, reopen, fed}

-- a server is running, or cold
pub data Mode : Type 0 where
  running : Mode
  cold : Mode

-- whether a call halted for want of power
abbrev pub is_no_power : Refusal → Bool
is_no_power NoPower = true
is_no_power w = false

abbrev pub wants_power : Halt → Bool
wants_power h = is_no_power h.refusal

-- issue and redeem hand back a running server, or a cold one after want of power
abbrev pub mode_after : Outcome → Mode
mode_after (Ok a) = running
mode_after (Err h) = cond (wants_power h) cold running

-- make and reopen give a running server, or hand the cold one back
abbrev pub mode_of : Result (Unit {0}) Halt → Mode
mode_of (Ok u) = running
mode_of (Err h) = cold

pub data Past (k : Kit) (d : ℕ) (root name : List ℕ) : Mode → State → Book → Type 0 where
  made : (s : State) (r : Result (Unit {0}) Halt) (t : State) →
      length root ≡ value_length → length name ≡ name_length → Making k d s root name r t true →
      Past k d root name (mode_of r) t fresh_book
  issued : (s : State) (b : Book) (plain : List ℕ) (room marks : ℕ) (r : Outcome) (ticket : List ℕ) (t : State) (headed : Bool) →
      Past k d root name running s b → Issuing k d s plain room marks r ticket t headed →
      Past k d root name (mode_after r) t (fed b (issue plain r ticket headed))
  redeemed : (s : State) (b : Book) (ticket : List ℕ) (room marks : ℕ) (r : Outcome) (state : List ℕ) (t : State) (joined : Bool) →
      Past k d root name running s b → Redeeming k d s ticket room marks r state t joined →
      Past k d root name (mode_after r) t (fed b (redeem ticket r joined))
  closed : (s : State) (b : Book) → Past k d root name running s b → Past k d root name cold s (fed b close)
  reopened : (s : State) (b : Book) (marks : ℕ) (r : Result (Unit {0}) Halt) (t : State) →
      Past k d root name cold s b → Reopening k d s marks r t → Past k d root name (mode_of r) t (fed b (reopen r))
