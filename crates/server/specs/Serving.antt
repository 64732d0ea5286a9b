-- What the calls of a server promise: what they do (crate calls), what they hand back, and that a past goes on.
use Rattle.std.specs.Prelude.{◌≡◌, ℕ, Bool, true, false, List, Ok, Err, Result}
use Rattle.device.specs.Effects.{State}
use Rattle.fault.specs.declared.Call.{Call}
use Rattle.fault.specs.declared.Call.TheVariants.{Make, Issue, Redeem, Reopen}
use Rattle.fault.specs.declared.Halt.{Halt}
use Rattle.fault.specs.declared.Fault.{Fault}
use Rattle.fault.specs.Faults.{fault_of}
use Rattle.tree.specs.Nodes.{tree_levels}
use Rattle.calls.specs.Kits.{Kit, Lawful}
use Rattle.calls.specs.Calls.{Outcome, Making, Issuing, Redeeming, Reopening}
use Rattle.calls.specs.Books.{Book, Deed, fresh_book, issue, redeem, close, reopen, fed}
use Rattle.calls.specs.Pasts.{Mode, running, cold, is_no_power, wants_power, Past}
use Rattle.law.specs.Law.{Law}
use Rattle.server.specs.declared.Cold.{Cold}
use Rattle.server.specs.declared.Running.{Running}
use Rattle.server.specs.declared.Answered.{Answered}
use Rattle.server.specs.declared.Answered.TheVariants.{Done, Refused, Cut}

-- what stopped a call, without the call and the layer
abbrev pub halt_in : Fault → Halt
halt_in f = record { refusal = f.refusal; place = f.place; step = f.step }

-- the answer of a call, where what stops it has become a fault
abbrev pub faulted : {A : Type 0} → Call → Result A Halt → Result A Fault
faulted c (Ok a) = Ok a
faulted c (Err h) = Err (fault_of c h)

-- ---- the calls over the parts of a server: what crate calls says, and the fault for what stopped the call
abbrev pub Within : {A : Type 0} → Call → Result A Fault → (Result A Halt → Type 0) → Type 0
Within {A = A} c a Did = (r : Result A Halt) × (a ≡ faulted c r) × Did r

abbrev pub MakeWithin : Kit → State → List ℕ → List ℕ → Result (Unit {0}) Fault → State → Type 0
MakeWithin k s root name a t = Within Make a (λ r. (headed : Bool) × Making k tree_levels s root name r t headed)

abbrev pub ReopenWithin : Kit → State → ℕ → Result (Unit {0}) Fault → State → Type 0
ReopenWithin k s marks a t = Within Reopen a (λ r. Reopening k tree_levels s marks r t)

abbrev pub IssueWithin : Kit → State → List ℕ → ℕ → ℕ → Result (ℕ × ℕ) Fault → List ℕ → State → Type 0
IssueWithin k s plain room marks a ticket t = Within Issue a (λ r. (headed : Bool) × Issuing k tree_levels s plain room marks r ticket t headed)

abbrev pub RedeemWithin : Kit → State → List ℕ → ℕ → ℕ → Result (ℕ × ℕ) Fault → List ℕ → State → Type 0
RedeemWithin k s ticket room marks a state t = Within Redeem a (λ r. (joined : Bool) × Redeeming k tree_levels s ticket room marks r state t joined)

module _ {D G S : Type 0} where
  -- the parts that an answer hands back, whether the server runs, and the outcome
  abbrev pub device_of : Answered D G S → D
  device_of (Done m a) = m.device
  device_of (Refused m f) = m.device
  device_of (Cut m f) = m.device

  abbrev pub generator_of : Answered D G S → G
  generator_of (Done m a) = m.generator
  generator_of (Refused m f) = m.generator
  generator_of (Cut m f) = m.generator

  abbrev pub sealer_of : Answered D G S → S
  sealer_of (Done m a) = m.sealer
  sealer_of (Refused m f) = m.sealer
  sealer_of (Cut m f) = m.sealer

  abbrev pub mode_in : Answered D G S → Mode
  mode_in (Done m a) = running
  mode_in (Refused m f) = running
  mode_in (Cut m f) = cold

  abbrev pub outcome_in : Answered D G S → Outcome
  outcome_in (Done m a) = Ok a
  outcome_in (Refused m f) = Err (halt_in f)
  outcome_in (Cut m f) = Err (halt_in f)

  -- the fault bears the call and the layer, and the server is cold just after want of power
  abbrev pub FaultOf : Call → Answered D G S → Type 0
  FaultOf c (Done m a) = Unit {0}
  FaultOf c (Refused m f) = (f ≡ fault_of c (halt_in f)) × (wants_power (halt_in f) ≡ false)
  FaultOf c (Cut m f) = (f ≡ fault_of c (halt_in f)) × (wants_power (halt_in f) ≡ true)

  -- the same parts, cold or running
  abbrev pub cold_of : Running D G S → Cold D G S
  cold_of m = record { device = m.device; generator = m.generator; sealer = m.sealer }

  abbrev pub running_of : Cold D G S → Running D G S
  running_of m = record { device = m.device; generator = m.generator; sealer = m.sealer }

  -- a server that was to be made or reopened is handed back: running, or cold still with the fault
  abbrev pub started_by : Cold D G S → Result (Unit {0}) Fault → Result (Running D G S) (Cold D G S × Fault)
  started_by m (Ok u) = Ok (running_of m)
  started_by m (Err f) = Err (m, f)

  -- a running server is handed back: cold after want of power, else running
  abbrev pub refused_by : Bool → Running D G S → Fault → Answered D G S
  refused_by true m f = Cut (cold_of m) f
  refused_by false m f = Refused m f

  abbrev pub answered_by : Running D G S → Result (ℕ × ℕ) Fault → Answered D G S
  answered_by m (Ok a) = Done m a
  answered_by m (Err f) = refused_by (is_no_power f.refusal) m f

  module _ (means : D → State) where
    -- a call of a running server: what it does, what is handed back, that a past goes on, and the law over pasts. `Did` and `deed`
    -- are the call's own: of its outcome, of the state after it, and of whether the write stands that counts for it.
    pub record RunningCall (k : Kit) (c : Call) (Did : Outcome → State → Bool → Type 0) (deed : Outcome → Bool → Deed) (me : Running D G S) (r : Answered D G S) : Type 0 where
      pub counts : Bool
      pub did : Did (outcome_in r) (means (device_of r)) counts
      pub same_generator : generator_of r ≡ me.generator
      pub same_sealer : sealer_of r ≡ me.sealer
      pub fault : FaultOf c r
      pub past : (root name : List ℕ) (b : Book) → Past k tree_levels root name running (means me.device) b →
          Past k tree_levels root name (mode_in r) (means (device_of r)) (fed b (deed (outcome_in r) counts))
      pub lawful : Lawful k
      pub law : Law

    -- issue, for which the head's write counts
    unfoldable pub IssueCall : Kit → Running D G S → List ℕ → ℕ → ℕ → List ℕ → Answered D G S → Type 0
    IssueCall k me plain room marks ticket r =
        RunningCall k Issue (λ o t headed. Issuing k tree_levels (means me.device) plain room marks o ticket t headed) (λ o headed. issue plain o ticket headed) me r

    -- redeem, for which the join's write counts
    unfoldable pub RedeemCall : Kit → Running D G S → List ℕ → ℕ → ℕ → List ℕ → Answered D G S → Type 0
    RedeemCall k me ticket room marks state r =
        RunningCall k Redeem (λ o t joined. Redeeming k tree_levels (means me.device) ticket room marks o state t joined) (λ o joined. redeem ticket o joined) me r

    -- how make ends: where the head's write stands, a past begins with a fresh book
    pub data MakeEnd (k : Kit) (me : Cold D G S) (root name : List ℕ) (r : Result (Running D G S) (Cold D G S × Fault)) : Type 0 where
      made : (m : Running D G S) → r ≡ Ok m → m.generator ≡ me.generator → m.sealer ≡ me.sealer →
          Making k tree_levels (means me.device) root name (Ok tt) (means m.device) true →
          Past k tree_levels root name running (means m.device) fresh_book → MakeEnd k me root name r
      unmade : (m : Cold D G S) (h : Halt) (headed : Bool) → r ≡ Err (m, fault_of Make h) → m.generator ≡ me.generator → m.sealer ≡ me.sealer →
          Making k tree_levels (means me.device) root name (Err h) (means m.device) headed →
          (headed ≡ true → Past k tree_levels root name cold (means m.device) fresh_book) → MakeEnd k me root name r

    unfoldable pub MakeCall : Kit → Cold D G S → List ℕ → List ℕ → Result (Running D G S) (Cold D G S × Fault) → Type 0
    MakeCall k me root name r = MakeEnd k me root name r

    -- how reopen ends: the chain is read and every free slot zero, or why not, and a past goes on
    pub data ReopenEnd (k : Kit) (me : Cold D G S) (marks : ℕ) (r : Result (Running D G S) (Cold D G S × Fault)) : Type 0 where
      reopened : (m : Running D G S) → r ≡ Ok m → m.generator ≡ me.generator → m.sealer ≡ me.sealer →
          Reopening k tree_levels (means me.device) marks (Ok tt) (means m.device) →
          ((root name : List ℕ) (b : Book) → Past k tree_levels root name cold (means me.device) b →
          Past k tree_levels root name running (means m.device) (fed b (reopen (Ok tt)))) → ReopenEnd k me marks r
      unopened : (m : Cold D G S) (h : Halt) → r ≡ Err (m, fault_of Reopen h) → m.generator ≡ me.generator → m.sealer ≡ me.sealer →
          Reopening k tree_levels (means me.device) marks (Err h) (means m.device) →
          ((root name : List ℕ) (b : Book) → Past k tree_levels root name cold (means me.device) b →
          Past k tree_levels root name cold (means m.device) (fed b (reopen (Err h)))) → ReopenEnd k me marks r

    unfoldable pub ReopenCall : Kit → Cold D G S → ℕ → Result (Running D G S) (Cold D G S × Fault) → Type 0
    ReopenCall k me marks r = ReopenEnd k me marks r

    -- close: the same parts, and a past goes on
    pub record CloseCall (k : Kit) (me : Running D G S) (r : Cold D G S) : Type 0 where
      pub same_device : r.device ≡ me.device
      pub same_generator : r.generator ≡ me.generator
      pub same_sealer : r.sealer ≡ me.sealer
      pub past : (root name : List ℕ) (b : Book) → Past k tree_levels root name running (means me.device) b →
          Past k tree_levels root name cold (means r.device) (fed b close)
