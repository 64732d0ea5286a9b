-- Every call has an outcome without a cut, whatever the slots hold.
use Rattle.std.proofs.Common.{◌≡◌, ℕ, zero, suc, ◌-◌, ◌<◌, ◌≤◌, Bool, true, false, cond, not, List, [], ◌∷◌, length, take, Some, None, Option, Ok, Err, Result, sym, refl, ap, ◌∙◌, subst, inl, inr, arith, length-take-le}
use Rattle.std.proofs.lemmas.Bool.{cases_lt, cases_Bool}
use Rattle.octets.specs.Buffers.{zeros, filled}
use Rattle.refusal.specs.declared.Refusal.TheVariants.{SlotCount, Spent, SealBroken, OpenedNotARecord, NoFreeSlot}
use Rattle.fault.specs.declared.Halt.{Halt}
use Rattle.fault.specs.Faults.{plainly, placed}
use Rattle.device.specs.Effects.{Slots, State}
use Rattle.session.specs.Records.{is_record}
use Rattle.layout.specs.declared.Head.{Head}
use Rattle.layout.specs.declared.Numbers.{Numbers}
use Rattle.tree.specs.Nodes.{Covers}
use Rattle.tree.specs.Cover.{In, Distinct}
use Rattle.tree.specs.Values.{key_from}
use Rattle.tree.proofs.Members.{in_right}
use Rattle.marks.specs.Rows.{room_of, is_marked, unmarked}
use Rattle.chain.specs.Reading.{Link, slots_of, file_of, Sound}
use Rattle.chain.specs.Listing.{find_in, marked_all}
use Rattle.chain.specs.Sound.{SoundFile, IsFileFault, free_in}
use Rattle.chain.specs.declared.Found.{Found}
use Rattle.chain.proofs.Files.{to_sound, file_fault}
use Rattle.chain.proofs.Finds.{found_at, none_at}
use Rattle.chain.proofs.Frees.{of_unmarked, free_are, free_count_is}
use Rattle.calls.proofs.Counting.{finished}
use Rattle.calls.specs.Kits.{Kit, numbers_in}
use Rattle.ticket.specs.Parts.{number_in}
use Rattle.steps.specs.Writes.{stood}
use Rattle.calls.specs.Files.{issue_write, redeem_writes, make_writes, sweep_writes, FreeSlots, free_count}
use Rattle.calls.specs.Calls.{entry_verdict, entered, read_by, powered, count_fits, Untouched, issue_verdict, issued_ticket, redeemable, redeem_verdict, Hit, Seals, new_links, Ready, reopen_verdict, Making, Issuing, Redeeming, Reopening}
use Rattle.calls.specs.Pasts.{is_no_power}
use Rattle.law.specs.Law.{Uncut}
use Rattle.law.specs.GoingOn.{MakeOutcome, ReopenOutcome, IssueOutcome, RedeemOutcome, Opens, CallsHaveOutcomes}
use Rattle.law.proofs.Frames.{in_take}
use Rattle.chain.proofs.Members.{in_map}
use Rattle.law.proofs.Links.{link_of}
use Rattle.law.proofs.Readings.{MayIssue, MayRedeem, issue_ok, redeem_ok}

-- ---- what stops a call while the power is on
-- no halt, or one that is not for want of power
abbrev clean : {A : Type 0} → Result A Halt → Bool
clean (Ok a) = true
clean (Err h) = not (is_no_power h.refusal)

clean_uncut : {A : Type 0} (r : Result A Halt) → clean r ≡ true → Uncut r
clean_uncut (Ok a) c h e = absurd (cc)
clean_uncut (Err g) c h e = λ q. absurd (cc)

clean_cond : {A : Type 0} (c : Bool) (r : Result A Halt) (h : Halt) → clean (cond c r (Err h)) ≡ cond c (clean r) (clean {A = A} (Err h))
clean_cond true r h = refl
clean_cond false r h = refl

cond_same : (c : Bool) → cond c true true ≡ true
cond_same true = refl
cond_same false = refl

-- a file's faults are not for want of power
clean_fault : (h : Halt) → IsFileFault h.refusal → clean {A = Sound} (Err h) ≡ true
clean_fault h (inl e) = rw e refl
clean_fault h (inr (inl e)) = rw e refl
clean_fault h (inr (inr e)) = rw e refl

clean_by : (r : Result Sound Halt) → ((h : Halt) → r ≡ Err h → IsFileFault h.refusal) → clean r ≡ true
clean_by (Ok f) g = refl
clean_by (Err h) g = clean_fault h (g h refl)

clean_file : (k : Kit) (d : ℕ) (s : Slots) → clean (file_of d (numbers_in k) s) ≡ true
clean_file k d s = clean_by (file_of d (numbers_in k) s) (file_fault d (numbers_in k) s)

clean_entry : (d : ℕ) (s : Slots) (least room marks : ℕ) → clean (entry_verdict d s least room marks) ≡ true
clean_entry d s least room marks = simp (clean_cond, cond_same)

clean_entered : (v : Result (Unit {0}) Halt) (r : Result Sound Halt) → clean v ≡ true → clean r ≡ true → clean (entered v r) ≡ true
clean_entered (Ok u) r a b = b
clean_entered (Err h) r a b = a

clean_redeemable : (k : Kit) (ticket : List ℕ) (r : Result Sound Halt) → clean r ≡ true → clean (redeemable k ticket r) ≡ true
clean_redeemable k ticket (Err h) c = c
clean_redeemable k ticket (Ok f) c = simp (clean_cond, cond_same)

module _ (k : Kit) (d : ℕ) (s : Slots) where
  issue_clean : (plain : List ℕ) (room marks : ℕ) → clean (issue_verdict k d (powered s) plain room marks) ≡ true
  issue_clean plain room marks = let c = clean_file k d s in grind arith

  redeem_clean : (ticket : List ℕ) (room marks : ℕ) → clean (redeem_verdict k d (powered s) ticket room marks) ≡ true
  redeem_clean ticket room marks = grind (arith, clean_entered, clean_entry, clean_redeemable, clean_file)

-- ---- an issue
module _ (k : Kit) (d : ℕ) (s : Slots) (plain : List ℕ) (room marks : ℕ) where
  issue_at : (v : Result Sound Halt) → issue_verdict k d (powered s) plain room marks ≡ v → IssueOutcome k d (powered s) plain room marks
  issue_at (Err h) e = record {
    outcome = Err h;
    ticket = zeros room;
    after = powered s;
    headed = false;
    call = Issuing.declined h e refl (record { state = refl; zero = refl }) refl;
    uncut = clean_uncut (Err h) (sym (ap clean e) ∙ issue_clean k d s plain room marks);
  }
  issue_at (Ok f) e =
      let may : MayIssue k d (powered s) plain f = issue_ok plain room marks f e in
      let file = to_sound d (numbers_in k) s f.0 f.1 may.read in
      let y = file.unissued f.0.issued (omega arith) may.left in
      let l = link_of f.1 y.0 y.1 in
      let T = issued_ticket k d f.0 l.0 plain in
      record {
        outcome = _;
        ticket = filled T room;
        after = powered (stood s (issue_write s f.0 ∷ []));
        headed = true;
        call = Issuing.given f l.0 e l.1 (rw l.2 y.2) (finished d l.0.node f.0.issued (length T)) refl refl refl refl;
        uncut = clean_uncut (Ok _) refl;
      }

-- ---- free slots for a puncture: the lowest
unmarked_distinct : (row : List ℕ) (n i : ℕ) → Distinct (unmarked row i n)
unmarked_distinct row zero i = tt
unmarked_distinct row (suc n) i =
    let off : In i (unmarked row (suc i) n) → ⊥ = λ m. let r = of_unmarked n row (suc i) i m in omega (arith, r.0) in
    let rest = unmarked_distinct row n (suc i) in
    elim (cases_Bool (is_marked row i)) [ inl t ↦ rw t rest | inr t ↦ rw t (off, rest) ]

distinct_take : (n : ℕ) (us : List ℕ) → Distinct us → Distinct (take n us)
distinct_take zero us d = tt
distinct_take (suc n) [] d = tt
distinct_take (suc n) (u ∷ us) d = (λ m. d.0 (in_take u n us m), distinct_take n us d.1)

module _ {d : ℕ} {numbers : Numbers} {s : Slots} {h : Head} {xs : List Link} (file : SoundFile d numbers s h xs) where
  -- some of them, the lowest first
  lowest : ℕ → List ℕ
  lowest n = take n (free_in 1 (length s) (marked_all (zeros (room_of (length s))) xs))

  lowest_free : (n : ℕ) → FreeSlots s xs (lowest n)
  unfolding lowest
  lowest_free n =
      let free = free_in 1 (length s) (marked_all (zeros (room_of (length s))) xs) in
      let told : (f : ℕ) → In f (take n free) → (1 ≤ f) × (f < length s) × (In f (slots_of xs) → ⊥) =
      λ f m. (free_are (room_of (length s)) (length s) 1 xs f (omega arith)).0 (in_take f n free m) in
      record {
        above = λ f m. (told f m).0;
        within = λ f m. (told f m).1;
        off = λ f m. (told f m).2;
        apart = distinct_take n free (unmarked_distinct (marked_all (zeros (room_of (length s))) xs) (length s - 1) 1);
      }

  lowest_many : (n : ℕ) → n ≤ free_count s xs → length (lowest n) ≡ n
  unfolding lowest
  lowest_many n l = grind (arith, free_count_is, length-take-le)

-- ---- a redemption
module _ (k : Kit) (d : ℕ) (s : Slots) (ticket : List ℕ) (room marks : ℕ) where
  -- refused, with all left as it was
  stays : (h : Halt) → clean {A = ℕ × ℕ} (Err h) ≡ true → Redeeming k d (powered s) ticket room marks (Err h) (zeros room) (powered s) false → RedeemOutcome k d (powered s) ticket room marks
  stays h n c = record { outcome = Err h; state = zeros room; after = powered s; joined = false; call = c; uncut = clean_uncut (Err h) n }

  untouched : Untouched (powered s) room (zeros room) (powered s)
  untouched = record { state = refl; zero = refl }

  module _ (f : Sound) (verdict : redeem_verdict k d (powered s) ticket room marks ≡ Ok f) where
    reads_file : file_of d (numbers_in k) s ≡ Ok f
    reads_file =
        let may : MayRedeem k d (powered s) ticket f = redeem_ok ticket room marks f verdict in
        may.read

    -- of a ticket that is opened
    module _ {front : List Link} {x : Link} {back : List Link} (hit : Hit k d (powered s) ticket room marks f front x back) {plain : List ℕ} (seals : Seals k d ticket x plain) where
      puncture : is_record plain ≡ true → d - x.node.depth ≤ free_count s f.1 → RedeemOutcome k d (powered s) ticket room marks
      puncture r l =
          let file = to_sound d (numbers_in k) s f.0 f.1 reads_file in
          let fs = lowest file (d - x.node.depth) in
          let ready : Ready k d s f x plain fs = record {
            record' = r;
            room = l;
            free = lowest_free file (d - x.node.depth);
            many = lowest_many file (d - x.node.depth) l;
          } in
          record {
            outcome = _;
            state = filled plain room;
            after = powered (stood s (redeem_writes s front x back (new_links k d x (number_in ticket) fs)));
            joined = true;
            call = Redeeming.opened f front x back plain fs hit seals ready refl refl refl (finished d x.node (number_in ticket) (length plain)) refl;
            uncut = clean_uncut (Ok _) refl;
          }

      opened_at : (c : Bool) → is_record plain ≡ c → RedeemOutcome k d (powered s) ticket room marks
      opened_at false e = stays (placed OpenedNotARecord (number_in ticket)) refl (Redeeming.strange f front x back plain hit seals e refl untouched refl)
      opened_at true e = elim (cases_lt (free_count s f.1) (d - x.node.depth)) [
        | inl l ↦ stays (placed NoFreeSlot (number_in ticket)) refl (Redeeming.full f front x back plain hit seals e l refl untouched refl)
        | inr l ↦ puncture e l
      ]

    hit_at : {front : List Link} {x : Link} {back : List Link} → Hit k d (powered s) ticket room marks f front x back →
        Opens k (key_from k.generator.expansion d x.node x.value (number_in ticket)) ticket → RedeemOutcome k d (powered s) ticket room marks
    hit_at hit (inl (plain, short, sealing)) = opened_at hit (record { short = short; sealing = sealing }) (is_record plain) refl
    hit_at {front = front} {x = x} {back = back} hit (inr none) =
        stays (placed SealBroken (number_in ticket)) refl (Redeeming.shut f front x back hit (λ plain p. none (plain, p.short, p.sealing)) refl untouched refl)

    found : (o : Option Found) → find_in d (number_in ticket) 0 f.1 ≡ o →
        ((x : Link) → In x f.1 → Covers d x.node (number_in ticket) → Opens k (key_from k.generator.expansion d x.node x.value (number_in ticket)) ticket) → RedeemOutcome k d (powered s) ticket room marks
    found None e told =
        stays (placed Spent (number_in ticket)) refl
        (Redeeming.spent f verdict (λ x i c. none_at d (number_in ticket) 0 f.1 e (x.node, in_map (λ (y : Link). y.node) x f.1 i, c)) refl untouched refl)
    found (Some o) e told =
        let a = found_at d (number_in ticket) 0 f.1 o e in
        let i : In a.link f.1 = subst (λ (ys : List Link). In a.link ys) (sym a.split) (in_right a.link a.front (a.link ∷ a.back) (inl refl)) in
        hit_at (record { verdict = verdict; chain = a.split; covers = a.covers }) (told a.link i a.covers)

  redeem_at : ((h : Head) (xs : List Link) (x : Link) → file_of d (numbers_in k) s ≡ Ok (h, xs) → In x xs → Covers d x.node (number_in ticket) →
      Opens k (key_from k.generator.expansion d x.node x.value (number_in ticket)) ticket) →
      (v : Result Sound Halt) → redeem_verdict k d (powered s) ticket room marks ≡ v → RedeemOutcome k d (powered s) ticket room marks
  redeem_at told (Err h) e = stays h (sym (ap clean e) ∙ redeem_clean k d s ticket room marks) (Redeeming.declined h e refl untouched refl)
  redeem_at told (Ok f) e = found f e (find_in d (number_in ticket) 0 f.1) refl (λ x i c. told f.0 f.1 x (reads_file f e) i c)

-- ---- a reopening, and a make
module _ (k : Kit) (d : ℕ) (s : State) (marks : ℕ) where
  reads_at : reopen_verdict d s.slots marks ≡ Ok tt → (v : Result Sound Halt) → read_by k d (powered s.slots) ≡ v → ReopenOutcome k d s marks
  reads_at e (Err h) q = record {
    outcome = Err h;
    after = powered s.slots;
    call = Reopening.faulty h e q refl refl refl;
    uncut = clean_uncut (Err h) (sym (ap clean q) ∙ clean_file k d s.slots);
  }
  reads_at e (Ok f) q = record {
    outcome = Ok tt;
    after = powered (stood s.slots (sweep_writes s.slots f.1));
    call = Reopening.swept f e q refl refl refl;
    uncut = clean_uncut (Ok tt) refl;
  }

  reopen_at : (v : Result (Unit {0}) Halt) → reopen_verdict d s.slots marks ≡ v → ReopenOutcome k d s marks
  reopen_at (Err h) e = record {
    outcome = Err h;
    after = s;
    call = Reopening.declined h e refl refl;
    uncut = clean_uncut (Err h) (sym (ap clean e) ∙ clean_entry d s.slots 0 0 marks);
  }
  reopen_at (Ok u) e = reads_at e (read_by k d (powered s.slots)) refl

make_at : (k : Kit) (d : ℕ) (s : State) (root name : List ℕ) (c : Bool) → count_fits d s.slots ≡ c → MakeOutcome k d s root name
make_at k d s root name false e = record {
  outcome = Err (plainly SlotCount);
  after = s;
  headed = false;
  call = Making.declined e refl refl refl;
  uncut = clean_uncut (Err (plainly SlotCount)) refl;
}
make_at k d s root name true e = record {
  outcome = Ok tt;
  after = powered (stood s.slots (make_writes k d s.slots root name));
  headed = true;
  call = Making.made e refl refl refl refl;
  uncut = clean_uncut (Ok tt) refl;
}

pub outcomes : CallsHaveOutcomes
outcomes = grind (arith, make_at, reopen_at, issue_at, redeem_at)
