-- Each call on a file that stands, not cut, is as its tale says.
use Rattle.std.proofs.Common.{◌≡◌, ℕ, ◌-◌, ◌≤◌, Bool, true, false, cond, ◌≢◌, List, length, Ok, Err, Result, sym, refl, ap, ◌∙◌, arith, length-take-le}
use Rattle.octets.specs.Buffers.{filled}
use Rattle.refusal.specs.declared.Refusal.{Refusal}
use Rattle.refusal.specs.declared.Refusal.TheVariants.{NoPower}
use Rattle.fault.specs.declared.Halt.{Halt}
use Rattle.device.specs.Effects.{Slots, State}
use Rattle.tree.specs.declared.Node.{Node}
use Rattle.tree.specs.Nodes.{Covers}
use Rattle.tree.specs.Cover.{In, cover}
use Rattle.tree.specs.Values.{key_of, key_from}
use Rattle.chain.specs.Reading.{Link, Sound}
use Rattle.ticket.specs.Limits.{heading_length}
use Rattle.calls.specs.Kits.{Kit}
use Rattle.ticket.specs.Parts.{number_in}
use Rattle.steps.specs.OneStep.{Write}
use Rattle.steps.specs.Writes.{CutShort}
use Rattle.steps.proofs.Plans.{length_stood}
use Rattle.calls.specs.Files.{free_count}
use Rattle.calls.proofs.Counting.{by_levels}
use Rattle.calls.specs.Calls.{Outcome, Finished, entered, issue_verdict, issued_ticket, redeem_verdict, Hit, Seals, Issuing, Redeeming}
use Rattle.calls.specs.Books.{Book}
use Rattle.calls.specs.Pasts.{running, is_no_power, mode_after}
use Rattle.law.specs.Law.{Uncut}
use Rattle.law.proofs.Invariant.{Inv}
use Rattle.law.proofs.Links.{link_over, link_count, link_is, key_is}
use Rattle.law.proofs.Readings.{MayIssue, MayRedeem, hit_may, inv_reads, file_is, hit_in, issue_ok, redeem_ok}
use Rattle.law.proofs.Told.{Barrier, and_then, View, issue_bar, IssueTold, redeem_bar, SealedIn, RoomTold, PlainTold, SealTold, NodeTold, RedeemTold}

-- ---- modes
other_refusal : (w : Refusal) → w ≢ NoPower → is_no_power w ≡ false
other_refusal NoPower f = absurd (f refl)
other_refusal w f = refl

-- a call that was not cut leaves the server running
pub uncut_running : (r : Outcome) → Uncut r → mode_after r ≡ running
uncut_running (Ok a) u = refl
uncut_running (Err h) u = rw (other_refusal h.refusal (u h refl))

-- a cut call is cut
cut_is : {s t : Slots} {ws : List Write} {m : ℕ} {h : Halt} {r : Outcome} → CutShort s ws m h t → r ≡ Err h → Uncut r → ⊥
cut_is {h = h} c e u = u h e (ap (λ (q : Halt). q.refusal) c.halt)

-- a call leaves as many slots as there were, whatever they held
pub issue_length : {k : Kit} {d : ℕ} {s : State} {plain : List ℕ} {room marks : ℕ} {r : Outcome} {ticket : List ℕ} {t : State} {headed : Bool} →
    Issuing k d s plain room marks r ticket t headed → length t.slots ≡ length s.slots
issue_length (Issuing.declined h verdict e u q) = ap (λ (x : State). length x.slots) u.state
issue_length (Issuing.cut f m h verdict c e p z q) = rw (c.slots, length_stood)
issue_length (Issuing.given f x verdict i c e q z p l) = rw (z, length_stood)

pub redeem_length : {k : Kit} {d : ℕ} {s : State} {ticket : List ℕ} {room marks : ℕ} {r : Outcome} {state : List ℕ} {t : State} {joined : Bool} →
    Redeeming k d s ticket room marks r state t joined → length t.slots ≡ length s.slots
redeem_length (Redeeming.declined h verdict e u q) = ap (λ (x : State). length x.slots) u.state
redeem_length (Redeeming.spent f verdict none e u q) = ap (λ (x : State). length x.slots) u.state
redeem_length (Redeeming.shut f front x back hit none e u q) = ap (λ (x : State). length x.slots) u.state
redeem_length (Redeeming.strange f front x back plain hit p odd e u q) = ap (λ (x : State). length x.slots) u.state
redeem_length (Redeeming.full f front x back plain hit p is few e u q) = ap (λ (x : State). length x.slots) u.state
redeem_length (Redeeming.cut f front x back plain fs m h hit p ready c e o z q) = rw (c.slots, length_stood)
redeem_length (Redeeming.opened f front x back plain fs hit p ready t o q e z) = rw (t, length_stood)

-- ---- verdicts without the file
abbrev unfiled : Result Sound Halt → Barrier
unfiled (Ok f) = Ok tt
unfiled (Err h) = Err h

unfiled_cond : (c : Bool) (r : Result Sound Halt) (h : Halt) → unfiled (cond c r (Err h)) ≡ cond c (unfiled r) (Err h)
unfiled_cond true r h = refl
unfiled_cond false r h = refl

unfiled_entered : (v : Barrier) (r : Result Sound Halt) → unfiled (entered v r) ≡ and_then v (unfiled r)
unfiled_entered (Ok u) r = refl
unfiled_entered (Err h) r = refl

-- ---- the tales
abbrev pub view_of : Kit → ℕ → List ℕ → Slots → Book → View
view_of k d name s b = record {
  depth = d;
  name = name;
  count = length s;
  issued = b.issued;
  nodes = cover d b.spent;
  sealing = k.sealer.sealing;
  overhead = k.sealer.overhead;
}

module _ {k : Kit} {d : ℕ} {root name : List ℕ} {s : State} {b : Book} (small : d ≤ 16) (v : Inv k d root name running s b) where
  abbrev w : View
  w = view_of k d name s.slots b

  module _ (plain : List ℕ) (room marks : ℕ) where
    issue_bar_is : unfiled (issue_verdict k d s plain room marks) ≡ issue_bar w plain room marks
    issue_bar_is = let r = inv_reads small v in simp (unfiled_entered, unfiled_cond, r)

    given_told : {f : Sound} (x : Link) {r : Outcome} {ticket : List ℕ} {headed : Bool} → MayIssue k d s plain f → issue_bar w plain room marks ≡ Ok tt → In x f.1 → Covers d x.node f.0.issued →
        Finished d x.node f.0.issued (length (issued_ticket k d f.0 x plain)) r → ticket ≡ filled (issued_ticket k d f.0 x plain) room → headed ≡ true →
        IssueTold w (key_of k.generator.expansion d root b.issued) plain room marks r ticket headed
    given_told {f = f} x may bar i c e q l =
        let same = file_is small v f may.read in
        let j : In x v.links = rw same at i in
        let n : Covers d x.node b.issued = rw same at c in
        let key = key_is v x b.issued j n in
        let z = by_levels e in
        IssueTold.given x.node bar (link_is v x j).member n (record { outcome = cc; buffer = cc; counts = l })

    pub issue_told : {r : Outcome} {ticket : List ℕ} {t : State} {headed : Bool} → Uncut r → Issuing k d s plain room marks r ticket t headed →
        IssueTold w (key_of k.generator.expansion d root b.issued) plain room marks r ticket headed
    issue_told u (Issuing.declined h verdict e z q) = IssueTold.barred h (sym issue_bar_is ∙ ap unfiled verdict) (record { outcome = e; buffer = z.zero; counts = q })
    issue_told u (Issuing.cut f m h verdict c e p z q) = absurd (cut_is c e u)
    issue_told u (Issuing.given f x verdict i c e q z p l) = given_told x (issue_ok plain room marks f verdict) (sym issue_bar_is ∙ ap unfiled verdict) i c e q l

  module _ (ticket : List ℕ) (room marks : ℕ) where
    abbrev key : List ℕ
    key = key_of k.generator.expansion d root (number_in ticket)

    redeem_bar_is : unfiled (redeem_verdict k d s ticket room marks) ≡ redeem_bar w ticket room marks
    redeem_bar_is = let r = inv_reads small v in simp (unfiled_entered, unfiled_cond, r)

    -- what a node's tale says, once nothing stops the redemption
    goes_on : {f : Sound} {r : Outcome} {u : List ℕ} {j : Bool} → redeem_verdict k d s ticket room marks ≡ Ok f → MayRedeem k d s ticket f → NodeTold w ticket room key r u j →
        RedeemTold w ticket room marks key r u j
    goes_on verdict may t = RedeemTold.passed (sym redeem_bar_is ∙ ap unfiled verdict) (length-take-le heading_length ticket (omega arith)) t

    module _ {f : Sound} {front : List Link} {x : Link} {back : List Link} (hit : Hit k d s ticket room marks f front x back) where
      free_is : free_count s.slots f.1 ≡ length s.slots - 1 - length (cover d b.spent)
      free_is =
          ap (λ (p : Sound). free_count s.slots p.1) (file_is small v f (hit_may small v hit).read)
          ∙ ap (λ (c : ℕ). length s.slots - 1 - c) (link_count v)

      key_of_is : key_from k.generator.expansion d x.node x.value (number_in ticket) ≡ key
      key_of_is = key_is v x (number_in ticket) (hit_in small v hit) hit.covers

      to_sealed : {plain : List ℕ} → Seals k d ticket x plain → SealedIn w ticket key plain
      to_sealed p = record { short = p.short; seals = rw key_of_is at p.sealing }

      of_sealed : {plain : List ℕ} → SealedIn w ticket key plain → Seals k d ticket x plain
      of_sealed p = record { short = p.short; sealing = rw key_of_is p.seals }

      through : {r : Outcome} {u : List ℕ} {j : Bool} → SealTold w ticket room key x.node r u j → RedeemTold w ticket room marks key r u j
      through t = goes_on hit.verdict (hit_may small v hit) (NodeTold.found x.node (link_is v x (hit_in small v hit)).member hit.covers t)

    no_node : {f : Sound} → MayRedeem k d s ticket f → ((x : Link) → In x f.1 → Covers d x.node (number_in ticket) → ⊥) →
        (x : Node) → In x (cover d b.spent) → Covers d x (number_in ticket) → ⊥
    no_node {f = f} may none x i c =
        let l = link_over v x i in
        let same = file_is small v f may.read in
        none l.0 (rw same l.1) (rw l.2 c)

    pub redeem_told : {r : Outcome} {state : List ℕ} {t : State} {joined : Bool} → Uncut r → Redeeming k d s ticket room marks r state t joined → RedeemTold w ticket room marks key r state joined
    redeem_told u (Redeeming.declined h verdict e z q) = RedeemTold.barred h (sym redeem_bar_is ∙ ap unfiled verdict) (record { outcome = e; buffer = z.zero; counts = q })
    redeem_told u (Redeeming.spent f verdict none e z q) =
        let may = redeem_ok ticket room marks f verdict in
        goes_on verdict may (NodeTold.spent (no_node may none) (record { outcome = e; buffer = z.zero; counts = q }))
    redeem_told u (Redeeming.shut f front x back hit none e z q) = through hit (SealTold.shut (λ plain p. none plain (of_sealed hit p)) (record { outcome = e; buffer = z.zero; counts = q }))
    redeem_told u (Redeeming.strange f front x back plain hit p odd e z q) =
        through hit (SealTold.unsealed plain (to_sealed hit p) (PlainTold.strange odd (record { outcome = e; buffer = z.zero; counts = q })))
    redeem_told u (Redeeming.full f front x back plain hit p is few e z q) =
        through hit (SealTold.unsealed plain (to_sealed hit p) (PlainTold.proper is (RoomTold.full (rw (free_is hit) at few) (record { outcome = e; buffer = z.zero; counts = q }))))
    redeem_told u (Redeeming.cut f front x back plain fs m h hit p ready c e o z q) = absurd (cut_is c e u)
    redeem_told u (Redeeming.opened f front x back plain fs hit p ready t o q e z) =
        through hit (SealTold.unsealed plain (to_sealed hit p) (PlainTold.proper ready.record' (RoomTold.opened (rw (free_is hit) at ready.room) (record { outcome = by_levels e; buffer = z; counts = q }))))
