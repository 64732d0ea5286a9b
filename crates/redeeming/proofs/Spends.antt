-- A redemption, from its steps.
use Rattle.std.proofs.Common.{◌≡◌, ℕ, ◌-◌, ◌<◌, ◌≤◌, true, false, ltb, List, length, Some, None, Ok, Err, Result, sym, refl, ap, ◌∙◌, inl, inr, arith}
use Rattle.octets.specs.Buffers.{zeros}
use Rattle.refusal.specs.declared.Refusal.TheVariants.{Spent, NoFreeSlot}
use Rattle.device.specs.Effects.{State}
use Rattle.fault.specs.declared.Halt.{Halt}
use Rattle.fault.specs.Faults.{placed}
use Rattle.session.specs.Limits.{max_record}
use Rattle.sealer.specs.Outcomes.{PlainOf}
use Rattle.tree.specs.Nodes.{max_levels}
use Rattle.marks.specs.Rows.{room_of}
use Rattle.chain.specs.declared.Found.{Found}
use Rattle.chain.specs.declared.Survey.{Survey}
use Rattle.chain.specs.Reading.{Link, file_of, Sound}
use Rattle.chain.specs.Listing.{between, marked_all}
use Rattle.chain.specs.Sound.{last_slot}
use Rattle.chain.proofs.Files.{to_sound}
use Rattle.chain.proofs.Members.{in_map}
use Rattle.chain.proofs.Finds.{found_at, none_at}
use Rattle.calls.specs.Kits.{Kit, numbers_in}
use Rattle.ticket.specs.Parts.{number_in, heading_in, sealed_in}
use Rattle.steps.specs.Writes.{through, failed}
use Rattle.calls.specs.Calls.{entry_verdict, read_by, redeemable, redeem_verdict, Seals, Ready, Hit, Untouched, declined, spent, shut, strange, full, cut, opened}
use Rattle.calls.proofs.Readings.{Entered, entered_by}
use Rattle.puncture.specs.Puncturing.{Given, Puncturing}
use Rattle.chain.proofs.Standing.{standing}
use Rattle.redeeming.specs.Steps.{Known, Met, Derived, Unsealing, Redeems}

-- a redemption that has found its record: x, between front and back in the file f, with the marks on the chain's slots
pub record Spotted (k : Kit) (d : ℕ) (s : State) (ticket : List ℕ) (room count many : ℕ) (found : Found) (marks : List ℕ) (f : Sound) (front : List Link) (x : Link) (back : List Link) : Type 0 where
  pub hit : Hit k d s ticket room (length marks) f front x back
  pub power : s.power ≡ true
  pub size : length s.slots ≡ count
  pub large : max_record ≤ room
  pub wide : room_of count ≤ length marks
  pub reads : file_of d (numbers_in k) s.slots ≡ Ok f
  pub finds : found ≡ between (last_slot 0 front) x back
  pub records : many ≡ length f.1
  pub marked : marks ≡ marked_all (zeros (length marks)) f.1

still : {s : State} {room : ℕ} → Untouched s room (zeros room) s
still = record { state = refl; zero = refl }

module _ {k : Kit} {d : ℕ} {s : State} {ticket : List ℕ} {room count many : ℕ} {found : Found} {marks : List ℕ} {f : Sound} {front : List Link} {x : Link} {back : List Link}
    (z : Spotted k d s ticket room count many found marks f front x back) where
  pub met : d ≤ max_levels → Met d s found (number_in ticket) x
  met few =
      let t = standing front x back (to_sound d (numbers_in k) s.slots f.0 f.1 z.reads) z.hit.chain in
      record {
        link = t.link;
        slot = ap (λ (y : Found). y.slot) z.finds;
        node = ap (λ (y : Found). y.node) z.finds;
        within = t.within;
        power = z.power;
        above = record { few = few; is_node = t.node; covers = z.hit.covers };
      }

  module _ {key : List ℕ} {row : List (List ℕ)} {calls : ℕ} (w : Derived k.generator.expansion d (number_in ticket) x (Ok calls) key row) where
    calls_are : calls ≡ d - x.node.depth
    calls_are = w.0.turns ∙ w.0.levels

    seals : (plain : List ℕ) → PlainOf (k.sealer.sealing key (heading_in ticket)) (sealed_in ticket) plain → Seals k d ticket x plain
    seals plain p = record { short = p.short; sealing = rw w.1 at p.seals }

    unseals : (plain : List ℕ) → Seals k d ticket x plain → PlainOf (k.sealer.sealing key (heading_in ticket)) (sealed_in ticket) plain
    unseals plain p = record { short = p.short; seals = rw w.1 p.sealing }

    pub stopped : (out : List ℕ) {h : Halt} → Unsealing (k.sealer.sealing key (heading_in ticket)) (sealed_in ticket) (number_in ticket) room (Err h) out →
        Redeems k d s ticket room (length marks) (Err h) (zeros room) s
    unfolding Redeems
    stopped out (inl p) = (false, shut f front x back z.hit (λ plain q. p.0 plain (unseals plain q)) (ap Err p.1) still refl)
    stopped out (inr p) = (false, strange f front x back p.0 z.hit (seals p.0 p.1) p.2 (ap Err p.3) still refl)

    module _ {l : ℕ} {out : List ℕ} (o : Unsealing (k.sealer.sealing key (heading_in ticket)) (sealed_in ticket) (number_in ticket) room (Ok l) out) where
      pub no_slot : count - 1 - many < calls → Redeems k d s ticket room (length marks) (Err (placed NoFreeSlot (number_in ticket))) (zeros room) s
      unfolding Redeems
      no_slot lt = (false, full f front x back o.0 z.hit (seals o.0 o.1) o.2 (omega (arith, z.size, z.records, calls_are)) refl still refl)

      module _ (le : calls ≤ count - 1 - many) where
        pub gives : Given k d s count found (number_in ticket) row marks f front x back
        gives = record {
          power = z.power;
          size = z.size;
          file = z.reads;
          chain = z.hit.chain;
          finds = z.finds;
          covers = z.hit.covers;
          kept = w.2;
          wide = z.wide;
          marked = z.marked;
          room = omega (arith, z.size, z.records, calls_are);
        }

        ready : {r : Result (Unit {0}) Halt} {t : State} → (p : Puncturing k d s.slots f front x back (number_in ticket) r t) → Ready k d s.slots f x o.0 p.taken
        ready p = record { record' = o.2; room = omega (arith, z.size, z.records, calls_are); free = p.free; many = p.many }

        pub failed_at : {h : Halt} {t : State} → Puncturing k d s.slots f front x back (number_in ticket) (Err h) t →
            Redeems k d s ticket room (length marks) (Err h) (zeros room) t
        unfolding Redeems
        failed_at p = elim p.ran [
          | through e a c ↦ absurd (cc)
          | failed m h e c q ↦ (ltb (d - x.node.depth) m, cut f front x back o.0 p.taken m h z.hit (seals o.0 o.1) (ready p) c (cc) q refl refl)
        ]

        pub done : {t : State} → Puncturing k d s.slots f front x back (number_in ticket) (Ok tt) t →
            Redeems k d s ticket room (length marks) (Ok (l, calls)) out t
        unfolding Redeems
        done p = elim p.ran [
          | through e a c ↦ (true, opened f front x back o.0 p.taken z.hit (seals o.0 o.1) (ready p) a c refl (record { calls = calls; counted = w.0; is = rw o.3 }) o.4)
          | failed m h e c q ↦ absurd (cc)
        ]

-- ---- before the chain is searched
module _ (k : Kit) (d : ℕ) (s : State) (ticket : List ℕ) (room m : ℕ) where
  pub not_entered : {h : Halt} → entry_verdict d s.slots max_record room m ≡ Err h → Redeems k d s ticket room m (Err h) (zeros room) s
  unfolding Redeems
  not_entered {h = h} e = (false, declined h (rw e) refl still refl)

  -- what the verdict is, once buffers and slots will do
  module _ (entry : entry_verdict d s.slots max_record room m ≡ Ok tt) where
    verdict_is : redeem_verdict k d s ticket room m ≡ redeemable k ticket (read_by k d s)
    verdict_is = rw entry

    pub not_surveyed : {h : Halt} → redeemable k ticket (read_by k d s) ≡ Err h → Redeems k d s ticket room m (Err h) (zeros room) s
    unfolding Redeems
    not_surveyed {h = h} v = (false, declined h (verdict_is ∙ v) refl still refl)

-- ---- once the file is read
pub is_spent : {k : Kit} {d : ℕ} {s : State} {ticket : List ℕ} (room : ℕ) {v : Survey} {marks : List ℕ} {f : Sound} →
    entry_verdict d s.slots max_record room (length marks) ≡ Ok tt → Known k d s ticket (length marks) v marks f →
    v.found ≡ None → Redeems k d s ticket room (length marks) (Err (placed Spent (number_in ticket))) (zeros room) s
unfolding Redeems
is_spent {k = k} {d = d} {s = s} {ticket = ticket} room {marks = marks} {f = f} entry c e = (
  false,
  spent f (verdict_is k d s ticket room (length marks) entry ∙ c.passed)
      (λ x i o. none_at d (number_in ticket) 0 f.1 (sym c.finds ∙ e) (x.node, in_map (λ (y : Link). y.node) x f.1 i, o)) refl still refl,
)

module _ {k : Kit} {d : ℕ} {s : State} {ticket : List ℕ} {room : ℕ} {v : Survey} {marks : List ℕ} {f : Sound}
    (entry : entry_verdict d s.slots max_record room (length marks) ≡ Ok tt) (c : Known k d s ticket (length marks) v marks f) where
  pub spots : {found : Found} {n : ℕ} → v.found ≡ Some found → n ≡ length s.slots →
      (front : List Link) × (x : Link) × (back : List Link) × Spotted k d s ticket room n v.length found marks f front x back
  spots {found = found} e size =
      let p = found_at d (number_in ticket) 0 f.1 found (sym c.finds ∙ e) in
      let a : Entered s.slots max_record room (length marks) = entered_by d entry in (
        p.front,
        p.link,
        p.back,
        record {
          hit = record { verdict = verdict_is k d s ticket room (length marks) entry ∙ c.passed; chain = p.split; covers = p.covers };
          power = c.power;
          size = sym size;
          large = a.large;
          wide = rw size a.wide;
          reads = c.reads;
          finds = p.is;
          records = c.many;
          marked = c.marked;
        },
      )
