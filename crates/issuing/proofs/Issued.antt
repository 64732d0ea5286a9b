-- Issuing, from what its parts tell.
use Rattle.std.proofs.Common.{◌≡◌, ℕ, ◌-◌, ◌<◌, ◌≤◌, true, false, ltb, List, ◌∷◌, ◌++◌, length, IsSome, Some, None, Option, Ok, Err, sym, refl, ap, ◌∙◌, subst, inl, arith}
use Rattle.std.proofs.lemmas.Bool.{lt-ltb, le-ltb}
use Rattle.octets.specs.Buffers.{zeros}
use Rattle.refusal.specs.declared.Refusal.TheVariants.{NotARecord, Exhausted}
use Rattle.fault.specs.declared.Halt.{Halt}
use Rattle.fault.specs.Faults.{plainly}
use Rattle.device.specs.Effects.{State}
use Rattle.session.specs.Records.{is_record}
use Rattle.session.proofs.Trip.{most}
use Rattle.tree.specs.Nodes.{tree_levels}
use Rattle.tree.proofs.Members.{in_right}
use Rattle.chain.specs.declared.Survey.{Survey}
use Rattle.chain.specs.declared.Found.{Found}
use Rattle.chain.specs.Outcome.{reading_of, answer_of, marks_of}
use Rattle.chain.specs.Sound.{SoundFile, FoundAt}
use Rattle.chain.proofs.Files.{to_sound}
use Rattle.chain.proofs.Finds.{found_at, none_at}
use Rattle.calls.specs.Kits.{Kit, numbers_in}
use Rattle.ticket.specs.Limits.{max_ticket}
use Rattle.calls.specs.Calls.{Outcome, Finished, entry_verdict, read_by, issuable, issue_verdict, issued_ticket, Issuing.declined, Issuing.cut, Issuing.given, kept}
use Rattle.issuing.specs.Ends.{Issuable, link_of, IssueEnds, ended, gave, Issues}
use Rattle.chain.proofs.Standing.{Standing, standing}
use Rattle.calls.proofs.Readings.{Entered, entered_by, Told, read_err, read_ok}

some_by : {A : Type 0} (o : Option A) → (o ≡ None → ⊥) → IsSome o
some_by (Some x) f = refl
some_by None f = absurd (f refl)

module _ (k : Kit) (s : State) (plain : List ℕ) (room marks : ℕ) where
  -- stopped before anything is written
  pub stopped : {h : Halt} → issue_verdict k tree_levels s plain room marks ≡ Err h → Issues k tree_levels s plain room marks (Err h) (zeros room) s
  unfolding Issues
  stopped {h = h} e = (false, declined h e refl (record { state = refl; zero = refl }) refl)

  module _ (entry : entry_verdict tree_levels s.slots max_ticket room marks ≡ Ok tt) where
    pub not_a_record : is_record plain ≡ false → Issues k tree_levels s plain room marks (Err (plainly NotARecord)) (zeros room) s
    not_a_record e = stopped (rw (entry, e))

    module _ (good : is_record plain ≡ true) where
      verdict_is : issue_verdict k tree_levels s plain room marks ≡ issuable tree_levels (read_by k tree_levels s)
      verdict_is = rw (entry, good)

      entered : Entered s.slots max_ticket room marks
      entered = entered_by tree_levels entry

      pub read_stops : {h : Halt} → Err h ≡ answer_of tree_levels None (reading_of tree_levels (numbers_in k) marks s) → Issues k tree_levels s plain room marks (Err h) (zeros room) s
      read_stops e = stopped (verdict_is ∙ ap (issuable tree_levels) (read_err tree_levels (numbers_in k) s entered.wide entered.some None e))

      module _ {v : Survey} (e : Ok v ≡ answer_of tree_levels None (reading_of tree_levels (numbers_in k) marks s)) where
        told : Told tree_levels (numbers_in k) s None marks v (marks_of marks (reading_of tree_levels (numbers_in k) marks s))
        told = read_ok tree_levels (numbers_in k) s entered.wide entered.some None e refl

        pub exhausted : 65536 ≤ v.head.issued → Issues k tree_levels s plain room marks (Err (plainly Exhausted)) (zeros room) s
        exhausted l =
            let t = le-ltb _ _ l in stopped (verdict_is ∙ ap (issuable tree_levels) told.read ∙ rw t)

        module _ (l : v.head.issued < 65536) where
          file : SoundFile tree_levels (numbers_in k) s.slots v.head told.links
          file = to_sound tree_levels (numbers_in k) s.slots v.head told.links told.file

          verdict_ok : issue_verdict k tree_levels s plain room marks ≡ Ok (v.head, told.links)
          verdict_ok = let t = lt-ltb _ _ l in verdict_is ∙ ap (issuable tree_levels) told.read ∙ rw t

          -- the next number lies under a record
          pub covered : IsSome v.found
          covered = some_by v.found (λ n. none_at tree_levels v.head.issued 0 told.links (sym told.finds ∙ n) (file.unissued v.head.issued (omega arith) l))

          module _ {f : Found} (is : v.found ≡ Some f) where
            spot : FoundAt tree_levels v.head.issued 0 told.links f
            spot = found_at tree_levels v.head.issued 0 told.links f (sym told.finds ∙ is)

            stands : Standing tree_levels s.slots spot.link
            stands = standing spot.front spot.link spot.back file spot.split

            -- the record found, as a link of the chain
            link_is : link_of s.slots f ≡ spot.link
            link_is = ap (link_of s.slots) spot.is ∙ ap (λ z. record { slot = spot.link.slot; node = spot.link.node; value = z.value }) (sym stands.link)

            pub may : Issuable s v.head f plain room
            may =
                record {
                  power = told.power;
                  within = omega (arith, ap (λ z. z.slot) spot.is, stands.within);
                  under = rw spot.is (record { few = omega arith; is_node = stands.node; covers = spot.covers });
                  left = l;
                  short = most plain good;
                  long = entered.large;
                }

            pub ends : {r : Outcome} {ticket : List ℕ} {t : State} → IssueEnds k s.slots v.head f plain room r ticket t →
                Issues k tree_levels s plain room marks r (kept r room ticket) t
            unfolding Issues
            ends {ticket = ticket} (ended m h c q o) =
                (ltb 0 m, cut (v.head, told.links) m h verdict_ok c q o (ap (λ x. kept x room ticket) q) refl)
            ends {r = r} {ticket = ticket} (gave q b c o) = (
              true,
              given (v.head, told.links) spot.link verdict_ok (rw spot.split (in_right spot.link spot.front (spot.link ∷ spot.back) (inl refl))) spot.covers
                  (subst (λ x. Finished tree_levels x.node v.head.issued (length (issued_ticket k tree_levels v.head x plain)) r) link_is q)
                  (ap (λ x. kept x room ticket) q.is ∙ b ∙ ap (λ x. issued_ticket k tree_levels v.head x plain ++ zeros (room - length (issued_ticket k tree_levels v.head x plain))) link_is)
                  c o refl,
            )
