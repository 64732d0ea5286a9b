-- What holds after every past, by induction over its calls.
use Rattle.std.proofs.Common.{◌≡◌, ℕ, ◌+◌, ◌≤◌, Bool, ◌⊎◌, List, [], ◌∷◌, ◌++◌, length, get_or, take, refl, ap, ◌∙◌, inl, inr, arith}
use Rattle.device.specs.Effects.{Slots, State}
use Rattle.fault.specs.declared.Step.TheVariants.{NewRecord}
use Rattle.layout.specs.declared.Head.{Head}
use Rattle.layout.specs.Records.{encode_head, encode_node, relinked, recounted}
use Rattle.tree.specs.Nodes.{tree_levels}
use Rattle.tree.specs.Cover.{In}
use Rattle.tree.proofs.Members.{in_cases}
use Rattle.chain.specs.Reading.{Link}
use Rattle.calls.specs.Kits.{Kit}
use Rattle.steps.specs.OneStep.{Write}
use Rattle.steps.specs.Writes.{stood, CutShort}
use Rattle.fault.specs.declared.Halt.{Halt}
use Rattle.chain.specs.Listing.{entry}
use Rattle.chain.specs.Sound.{last_slot}
use Rattle.calls.specs.Files.{record_of, issue_write, new_writes, join_write, erase_write, redeem_writes}
use Rattle.calls.specs.Calls.{Outcome, new_links, Issuing, Redeeming, Issuing.declined, Issuing.cut, Issuing.given, Redeeming.spent, Redeeming.shut, Redeeming.strange, Redeeming.full, Redeeming.opened}
use Rattle.ticket.specs.Parts.{number_in}
use Rattle.calls.specs.Books.{Book}
use Rattle.calls.specs.Pasts.{Mode, running, Past, made, issued, redeemed, closed, reopened}
use Rattle.law.proofs.Invariant.{Linked, head_for, Inv}
use Rattle.steps.proofs.Plans.{length_stood}
use Rattle.law.proofs.Frames.{in_take}
use Rattle.law.proofs.Readings.{hit_chain, cooled}
use Rattle.law.proofs.RedeemKeeps.{redeem_keeps}
use Rattle.law.proofs.IssueKeeps.{issue_keeps}
use Rattle.law.proofs.ReopenKeeps.{Whole, Definite, whole_stood, reopen_holds}
use Rattle.law.proofs.MakeKeeps.{node_definite, make_holds}

-- ---- what a call wrote: bytes that are a whole slot of zeros, or not all zero
pub record Wrote (s t : Slots) : Type 0 where
  pub writes : List Write
  pub stand : t ≡ stood s writes
  pub definite : (w : Write) → In w writes → Definite w.bytes

pub wrote_length : {s t : Slots} → Wrote s t → length t ≡ length s
wrote_length w = rw (w.stand, length_stood)

wrote_whole : {s t : Slots} → Wrote s t → Whole s → Whole t
wrote_whole {s = s} w h = rw w.stand (whole_stood w.writes s w.definite h)

nothing : {s t : State} → t ≡ s → Wrote s.slots t.slots
nothing e = record { writes = []; stand = ap (λ (z : State). z.slots) e; definite = λ w m. absurd m }

-- some of them stand
some : {s t : Slots} {ws : List Write} {m : ℕ} {h : Halt} → CutShort s ws m h t → ((w : Write) → In w ws → Definite w.bytes) → Wrote s t
some {ws = ws} {m = m} c f = record { writes = take m ws; stand = c.slots; definite = λ w i. f w (in_take w m ws i) }

-- ---- an issue
recounted_definite : (d n : ℕ) (h : Head) → Definite (recounted n (encode_head d h))
unfolding encode_head
recounted_definite d n h = inr refl

head_definite_in : {k : Kit} {d : ℕ} {root name : List ℕ} {s : State} {b : Book} → Inv k d root name running s b → (h : Head) (w : Write) → In w (issue_write s.slots h ∷ []) → Definite w.bytes
head_definite_in {k = k} {d = d} {name = name} {b = b} v h w (inl e) = rw (e, v.stands.head) (recounted_definite d (h.issued + 1) (head_for k name b.issued (entry v.links 0)))
head_definite_in v h w (inr a) = absurd a

pub issue_wrote : {k : Kit} {d : ℕ} {root name : List ℕ} {s : State} {b : Book} {plain : List ℕ} {room marks : ℕ} {r : Outcome} {ticket : List ℕ} {t : State} {headed : Bool} →
    Inv k d root name running s b → Issuing k d s plain room marks r ticket t headed → Wrote s.slots t.slots
issue_wrote v (declined h verdict e u q) = nothing u.state
issue_wrote v (cut f m h verdict c e p z q) = some c (head_definite_in v f.0)
issue_wrote {s = s} v (given f x verdict i c e q z p l) = record { writes = issue_write s.slots f.0 ∷ []; stand = z; definite = head_definite_in v f.0 }

-- ---- a redemption
new_definite : (xs : List Link) (i : ℕ) (w : Write) → In w (new_writes xs i) → Definite w.bytes
new_definite [] i w m = absurd m
new_definite (x ∷ xs) i w m =
    elim (in_cases w (new_writes xs i) (record { slot = x.slot; bytes = record_of x (entry xs i); step = NewRecord } ∷ []) m) [
      | inl a ↦ new_definite xs i w a
      | inr a ↦ elim a [
        | inl e ↦ rw e (node_definite (record { depth = x.node.depth; first = x.node.first; next = entry xs i }) x.value)
        | inr z ↦ absurd z
      ]
    ]

relinked_head : (d i : ℕ) (h : Head) → Definite (relinked i (encode_head d h))
unfolding encode_head
relinked_head d i h = inr refl

relinked_record : (x : Link) (n i : ℕ) → Definite (relinked i (record_of x n))
unfolding encode_node
relinked_record x n i = inr refl

-- the slot before a place on the chain is the head's, or holds a record
last_record : (front rest : List Link) (s : Slots) (i j : ℕ) → Linked s (front ++ rest) i →
    (last_slot j front ≡ j) ⊎ ((y : Link) × (n : ℕ) × (get_or s (last_slot j front) [] ≡ record_of y n))
last_record [] rest s i j l = inl refl
last_record (x ∷ front) rest s i j l =
    elim (last_record front rest s i x.slot l.3) [
      | inl e ↦ inr (x, entry (front ++ rest) i, ap (λ (p : ℕ). get_or s p []) e ∙ l.2)
      | inr a ↦ inr a
    ]

module _ {k : Kit} {d : ℕ} {root name : List ℕ} {s : State} {b : Book} (v : Inv k d root name running s b)
    (front : List Link) (x : Link) (back new : List Link) (chain : v.links ≡ front ++ (x ∷ back)) where
  join_definite : Definite (join_write s.slots front (entry new (entry back 0))).bytes
  join_definite = grind (arith, Linked, last_record, relinked_head, head_for, relinked_record)

  redeem_definite : (w : Write) → In w (redeem_writes s.slots front x back new) → Definite w.bytes
  redeem_definite w m =
      let join = join_write s.slots front (entry new (entry back 0)) in
      elim (in_cases w (new_writes new (entry back 0)) (join ∷ erase_write x ∷ []) m) [
        | inl a ↦ new_definite new (entry back 0) w a
        | inr a ↦ elim a [
          | inl e ↦ rw e join_definite
          | inr z ↦ elim z [ inl e ↦ rw e (inl refl) | inr y ↦ absurd y ]
        ]
      ]

pub redeem_wrote : {k : Kit} {d : ℕ} {root name : List ℕ} {s : State} {b : Book} {ticket : List ℕ} {room marks : ℕ} {r : Outcome} {state : List ℕ} {t : State} {joined : Bool} →
    d ≤ 16 → Inv k d root name running s b → Redeeming k d s ticket room marks r state t joined → Wrote s.slots t.slots
redeem_wrote small v (Redeeming.declined h verdict e u q) = nothing u.state
redeem_wrote small v (spent f verdict n e u q) = nothing u.state
redeem_wrote small v (shut f front x back hit n e u q) = nothing u.state
redeem_wrote small v (strange f front x back plain hit sl n e u q) = nothing u.state
redeem_wrote small v (full f front x back plain hit sl n l e u q) = nothing u.state
redeem_wrote {k = k} {d = d} {ticket = ticket} small v (Redeeming.cut f front x back plain fs m h hit sl ready c e p z q) =
    some c (redeem_definite v front x back (new_links k d x (number_in ticket) fs) (hit_chain small v hit))
redeem_wrote {k = k} {d = d} {s = s} {ticket = ticket} small v (opened f front x back plain fs hit sl ready z p q e l) =
    let new = new_links k d x (number_in ticket) fs in
    record { writes = redeem_writes s.slots front x back new; stand = z; definite = redeem_definite v front x back new (hit_chain small v hit) }

-- ---- every past
past_holds : {k : Kit} {d : ℕ} {root name : List ℕ} {m : Mode} {s : State} {b : Book} → d ≤ 16 → Past k d root name m s b → Inv k d root name m s b × Whole s.slots
past_holds small (made s r t lr ln mk) = make_holds lr ln mk
past_holds small (issued s b plain room marks r ticket t headed p i) = let h = past_holds small p in (issue_keeps small h.0 i, wrote_whole (issue_wrote h.0 i) h.1)
past_holds small (redeemed s b ticket room marks r state t joined p i) = let h = past_holds small p in (redeem_keeps small h.0 i, wrote_whole (redeem_wrote small h.0 i) h.1)
past_holds small (closed s b p) = let h = past_holds small p in (cooled s h.0 refl, h.1)
past_holds small (reopened s b marks r t p i) = let h = past_holds small p in reopen_holds small h.1 h.0 i

-- of the trees in use
pub small : tree_levels ≤ 16
small = omega arith

pub holding : {k : Kit} {root name : List ℕ} {m : Mode} {s : State} {b : Book} → Past k tree_levels root name m s b → Inv k tree_levels root name m s b
holding p = (past_holds small p).0
