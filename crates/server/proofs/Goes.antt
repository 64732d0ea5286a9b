-- The calls of a server, from the work that is done on its device: what is handed back, and that a past goes on.
use Rattle.std.proofs.Common.{◌≡◌, ℕ, Bool, true, false, cond, List, length, Ok, Err, Result, refl, ap}
use Rattle.device.specs.Effects.{State}
use Rattle.fault.specs.declared.Call.{Call}
use Rattle.fault.specs.declared.Fault.{Fault}
use Rattle.fault.specs.Faults.{fault_of}
use Rattle.tree.specs.Nodes.{tree_levels}
use Rattle.calls.specs.Kits.{Kit, Lawful}
use Rattle.generator.specs.Bytes.{value_length}
use Rattle.ticket.specs.Limits.{name_length}
use Rattle.calls.specs.Calls.{Outcome, Making, Making.declined, Making.stopped, Making.cut, Making.made}
use Rattle.calls.specs.Books.{Book, Deed, fed}
use Rattle.calls.specs.Pasts.{running, cold, is_no_power, mode_after, Past, Past.issued, Past.redeemed, Past.closed, Past.reopened}
use Rattle.calls.specs.Pasts as pasts
use Rattle.law.proofs.LawHolds.{law_holds}
use Rattle.server.specs.declared.Cold.{Cold}
use Rattle.server.specs.declared.Running.{Running}
use Rattle.server.specs.declared.Answered.{Answered}
use Rattle.server.specs.Serving.{device_of, generator_of, sealer_of, mode_in, outcome_in, FaultOf, faulted, cold_of, started_by, refused_by, answered_by, Within, RunningCall, MakeWithin, IssueWithin, RedeemWithin, ReopenWithin, IssueCall, RedeemCall, MakeCall, ReopenCall, CloseCall}
use Rattle.server.specs.Serving as serving

-- a make that is done has its head's write standing
done_headed : {k : Kit} {s : State} {root name : List ℕ} {t : State} {headed : Bool} → Making k tree_levels s root name (Ok tt) t headed → headed ≡ true
done_headed (declined f e a b) = absurd (cc)
done_headed (stopped f e a b c) = absurd (cc)
done_headed (cut m h f c e o q) = absurd (cc)
done_headed (made f a e o q) = q

-- a server handed back after a call with the outcome o: its parts, and what is told
record Handed {D G S : Type 0} (m : Running D G S) (c : Call) (o : Outcome) (r : Answered D G S) : Type 0 where
  device : device_of r ≡ m.device
  generator : generator_of r ≡ m.generator
  sealer : sealer_of r ≡ m.sealer
  outcome : outcome_in r ≡ o
  fault : FaultOf c r
  mode : mode_after (outcome_in r) ≡ mode_in r

handed_by : {D G S : Type 0} (m : Running D G S) (c : Call) (o : Outcome) → Handed m c o (answered_by m (faulted c o))
handed_by m c (Ok a) = record { device = refl; generator = refl; sealer = refl; outcome = refl; fault = tt; mode = refl }
handed_by m c (Err h) = by_power (is_no_power h.refusal) refl
  where
    by_power : (b : Bool) → is_no_power h.refusal ≡ b → Handed m c (Err h) (refused_by b m (fault_of c h))
    by_power true e = record { device = refl; generator = refl; sealer = refl; outcome = refl; fault = (refl, e); mode = ap (λ b. cond b cold running) e }
    by_power false e = record { device = refl; generator = refl; sealer = refl; outcome = refl; fault = (refl, e); mode = ap (λ b. cond b cold running) e }

-- what a call did, told of the server that it handed back
moved : {D G S : Type 0} {m : Running D G S} {c : Call} {o : Outcome} {r : Answered D G S} (P : Outcome → D → Type 0) → Handed m c o r → P o m.device → P (outcome_in r) (device_of r)
moved P h did = rw (h.device, h.outcome) did

module _ {D G S : Type 0} (means : D → State) (k : Kit) (lawful : Lawful k) where
  served : {c : Call} {Did : Outcome → State → Bool → Type 0} {deed : Outcome → Bool → Deed} (me : Running D G S) (device : D) (a : Result (ℕ × ℕ) Fault) →
      ((root name : List ℕ) (b : Book) (o : Outcome) (t : State) (x : Bool) → Past k tree_levels root name running (means me.device) b → Did o t x → Past k tree_levels root name (mode_after o) t (fed b (deed o x))) →
      Within c a (λ o. (x : Bool) × Did o (means device) x) →
      RunningCall means k c Did deed me (answered_by (record { device = device; generator = me.generator; sealer = me.sealer }) a)
  served {c = c} {Did = Did} {deed = deed} me device a goes (o, e, (x, did)) =
      let m : Running D G S = record { device = device; generator = me.generator; sealer = me.sealer } in
      let r : Answered D G S = answered_by m a in
      let h : Handed m c o r = rw e (handed_by m c o) in
      let told : Did (outcome_in r) (means (device_of r)) x = moved (λ y d. Did y (means d) x) h did in
      record {
        counts = x;
        did = told;
        same_generator = h.generator;
        same_sealer = h.sealer;
        fault = h.fault;
        past = λ root name b p.
            rw h.mode at (goes root name b (outcome_in r) (means (device_of r)) x p told);
        lawful = lawful;
        law = law_holds;
      }

  pub issue_serves : (me : Running D G S) (device : D) (plain : List ℕ) (room marks : ℕ) (ticket : List ℕ) (a : Result (ℕ × ℕ) Fault) (r : Answered D G S) →
      IssueWithin k (means me.device) plain room marks a ticket (means device) →
      r ≡ answered_by (record { device = device; generator = me.generator; sealer = me.sealer }) a →
      IssueCall means k me plain room marks ticket r
  unfolding IssueCall
  issue_serves me device plain room marks ticket a r w e =
      rw e (served me device a (λ root name b o t x. issued (means me.device) b plain room marks o ticket t x) w)

  pub redeem_serves : (me : Running D G S) (device : D) (ticket : List ℕ) (room marks : ℕ) (state : List ℕ) (a : Result (ℕ × ℕ) Fault) (r : Answered D G S) →
      RedeemWithin k (means me.device) ticket room marks a state (means device) →
      r ≡ answered_by (record { device = device; generator = me.generator; sealer = me.sealer }) a →
      RedeemCall means k me ticket room marks state r
  unfolding RedeemCall
  redeem_serves me device ticket room marks state a r w e =
      rw e (served me device a (λ root name b o t x. redeemed (means me.device) b ticket room marks o state t x) w)

  pub make_serves : (me : Cold D G S) (device : D) (root name : List ℕ) (a : Result (Unit {0}) Fault) (r : Result (Running D G S) (Cold D G S × Fault)) →
      length root ≡ value_length → length name ≡ name_length →
      MakeWithin k (means me.device) root name a (means device) →
      r ≡ started_by (record { device = device; generator = me.generator; sealer = me.sealer }) a →
      MakeCall means k me root name r
  unfolding MakeCall
  make_serves me device root name a r lr ln (Ok u, e, (headed, did)) f =
      let stands = rw (done_headed did) at did in
      rw (f, e) (serving.made (record { device = device; generator = me.generator; sealer = me.sealer }) refl refl refl stands
      (pasts.made (means me.device) (Ok tt) (means device) lr ln stands))
  make_serves me device root name a r lr ln (Err h, e, (headed, did)) f =
      rw (f, e) (serving.unmade (record { device = device; generator = me.generator; sealer = me.sealer }) h headed refl refl refl did
      (λ q. pasts.made (means me.device) (Err h) (means device) lr ln (rw q at did)))

  pub reopen_serves : (me : Cold D G S) (device : D) (marks : ℕ) (a : Result (Unit {0}) Fault) (r : Result (Running D G S) (Cold D G S × Fault)) →
      ReopenWithin k (means me.device) marks a (means device) →
      r ≡ started_by (record { device = device; generator = me.generator; sealer = me.sealer }) a →
      ReopenCall means k me marks r
  unfolding ReopenCall
  reopen_serves me device marks a r (Ok u, e, did) f =
      rw (f, e) (serving.reopened (record { device = device; generator = me.generator; sealer = me.sealer }) refl refl refl did
      (λ root name b p. pasts.reopened (means me.device) b marks (Ok tt) (means device) p did))
  reopen_serves me device marks a r (Err h, e, did) f =
      rw (f, e) (serving.unopened (record { device = device; generator = me.generator; sealer = me.sealer }) h refl refl refl did
      (λ root name b p. pasts.reopened (means me.device) b marks (Err h) (means device) p did))

  pub closes : (me : Running D G S) → CloseCall means k me (cold_of me)
  closes me = record { same_device = refl; same_generator = refl; same_sealer = refl; past = λ root name b p. closed (means me.device) b p }
