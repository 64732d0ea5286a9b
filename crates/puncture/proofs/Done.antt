-- A puncture put together from its writes.
use Rattle.std.proofs.Common.{replicate, ◌≡◌, ℕ, ◌-◌, ◌<◌, ◌≤◌, true, ◌⊎◌, List, [], ◌∷◌, ◌++◌, length, get_or, Ok, Err, Result, refl, ap, ◌∙◌, inl, inr, append_assoc, arith}
use Rattle.std.proofs.lemmas.List.{get_or-set_other}
use Rattle.octets.specs.Buffers.{zeros}
use Rattle.device.specs.Effects.{Slots, blank, State}
use Rattle.fault.specs.declared.Halt.{Halt}
use Rattle.fault.specs.declared.Step.TheVariants.{Join, Erasure}
use Rattle.layout.specs.Records.{relinked}
use Rattle.tree.specs.declared.Node.{Node}
use Rattle.tree.specs.Nodes.{root_node, max_levels, Above}
use Rattle.tree.specs.Cover.{In}
use Rattle.tree.specs.Puncture.{siblings_from}
use Rattle.tree.specs.Values.{Valued, valued, value_from, sibling_values}
use Rattle.tree.proofs.Flanks.{length_siblings}
use Rattle.chain.specs.declared.Found.{Found}
use Rattle.chain.specs.Sound.{SoundFile, last_slot}
use Rattle.chain.proofs.Members.{slot_left, last_cases}
use Rattle.chain.proofs.Files.{to_sound}
use Rattle.chain.proofs.Frees.{free_are, free_count_is}
use Rattle.chain.specs.Reading.{Link, slots_of, Sound}
use Rattle.chain.specs.Listing.{marked_all, entry}
use Rattle.calls.specs.Kits.{Kit, numbers_in}
use Rattle.generator.specs.Bytes.{value_length}
use Rattle.steps.specs.OneStep.{write_of, Stepped}
use Rattle.steps.specs.Writes.{stood, Ran}
use Rattle.calls.specs.Files.{links_in, record_of, new_writes, join_write, erase_write, redeem_writes, FreeSlots}
use Rattle.calls.specs.Calls.{new_links}
use Rattle.steps.proofs.Plans.{stood_append, done_slots, done_power, done_long, ran_next, ran_cut, ran_as}
use Rattle.puncture.specs.Laying.{open_slots, backward, links_for, Able, Laid, Recorded}
use Rattle.puncture.specs.Puncturing.{Given, Puncturing, Joins, Punctures}
use Rattle.puncture.proofs.Open.{rises, backward_apart, backward_in, length_backward}
use Rattle.chain.proofs.Standing.{Standing, standing}
use Rattle.puncture.proofs.Values.{value_at_is, links_are}

-- ---- small facts on links
links_within : (fs : List ℕ) (vs : List Valued) (j : ℕ) → In j (slots_of (links_in fs vs)) → In j fs
links_within [] vs j m = absurd m
links_within (f ∷ fs) [] j m = absurd m
links_within (f ∷ fs) (v ∷ vs) j (inl q) = inl q
links_within (f ∷ fs) (v ∷ vs) j (inr m) = inr (links_within fs vs j m)

-- a slot that no new record goes to stays
unwritten : (s : Slots) (new : List Link) (i j : ℕ) → (In j (slots_of new) → ⊥) → get_or (stood s (new_writes new i)) j [] ≡ get_or s j []
unwritten s [] i j f = refl
unwritten s (x ∷ xs) i j f =
    rw stood_append (get_or-set_other (stood s (new_writes xs i)) x.slot j (record_of x (entry xs i)) [] (λ q. f (inl q)) ∙ unwritten s xs i j (λ m. f (inr m)))

-- ---- the writes
module _ (s : Slots) (front : List Link) (x : Link) (back new : List Link) (last : last_slot 0 front < length s) (here : x.slot < length s)
    (off : In (last_slot 0 front) (slots_of new) → ⊥) where
  abbrev onward : ℕ
  onward = entry back 0

  abbrev inward : ℕ
  inward = entry new onward

  plan_cut : {t : State} {h : Halt} → Laid s new onward (Err h) t → Ran s (redeem_writes s front x back new) (Err h) t
  plan_cut l = ran_cut (join_write s front inward ∷ erase_write x ∷ []) l

  joined_by : {t u : State} {j : ℕ} {r : Result (Unit {0}) Halt} → Laid s new onward (Ok j) t →
      Stepped t (write_of (last_slot 0 front) (relinked j (get_or t.slots (last_slot 0 front) [])) Join) r u →
      Ran s (new_writes new onward ++ (join_write s front inward ∷ [])) r u
  joined_by {t = t} {u = u} {r = r} l w =
      let o = l in
      let q : get_or t.slots (last_slot 0 front) [] ≡ get_or s (last_slot 0 front) [] = ap (λ (z : Slots). get_or z (last_slot 0 front) []) (done_slots o.1) ∙ unwritten s new onward (last_slot 0 front) off in
      ran_next (join_write s front inward) o.1 last (rw (o.0, q) at w)

  plan_join : {t u : State} {j : ℕ} {h : Halt} → Laid s new onward (Ok j) t →
      Stepped t (write_of (last_slot 0 front) (relinked j (get_or t.slots (last_slot 0 front) [])) Join) (Err h) u →
      Ran s (redeem_writes s front x back new) (Err h) u
  plan_join l w =
      ran_as (append_assoc (new_writes new onward) (join_write s front inward ∷ []) (erase_write x ∷ [])) (ran_cut (erase_write x ∷ []) (joined_by l w))

  plan_done : {t u v : State} {j : ℕ} {r : Result (Unit {0}) Halt} → Laid s new onward (Ok j) t →
      Stepped t (write_of (last_slot 0 front) (relinked j (get_or t.slots (last_slot 0 front) [])) Join) (Ok tt) u →
      Stepped u (write_of x.slot blank Erasure) r v →
      Ran s (redeem_writes s front x back new) r v
  plan_done l w z =
      ran_as (append_assoc (new_writes new onward) (join_write s front inward ∷ []) (erase_write x ∷ [])) (ran_next (erase_write x) (joined_by l w) here z)

-- ---- from what is given
module _ {k : Kit} {d : ℕ} {s : State} {count : ℕ} {found : Found} {n : ℕ} {row : List (List ℕ)} {marks : List ℕ} {f : Sound} {front : List Link} {x : Link} {back : List Link}
    (g : Given k d s count found n row marks f front x back) where
  file : SoundFile d (numbers_in k) s.slots f.0 f.1
  file = to_sound d (numbers_in k) s.slots f.0 f.1 g.file

  stands : Standing d s.slots x
  stands = standing front x back file g.chain

  pub node_same : found.node ≡ x.node
  node_same = ap (λ (z : Found). z.node) g.finds

  -- there is a way down
  pub way_down : d ≤ max_levels → Above d found.node n
  way_down m = rw node_same (record { few = m; is_node = stands.node; covers = g.covers })

  slots_within : (j : ℕ) → In j (slots_of f.1) → (0 < j) × (j < count)
  slots_within j m = let r = file.slots j m in (r.0, omega (arith, r.1, g.size))

  abbrev m : ℕ
  m = d - x.node.depth

  abbrev taken : List ℕ
  taken = backward (open_slots marks count) m

  enough : m ≤ length (open_slots marks count)
  enough =
      let c = free_count_is (length marks) count f.1 g.wide slots_within file.distinct in
      let e : length (open_slots marks count) ≡ length (open_slots (marked_all (zeros (length marks)) f.1) count) = ap (λ (l : List ℕ). length (open_slots l count)) g.marked in
      omega (arith, c, e, g.size, g.room)

  -- a slot that is taken is free
  is_free : (j : ℕ) → In j taken → (1 ≤ j) × (j < count) × (In j (slots_of f.1) → ⊥)
  is_free j i =
      (free_are (length marks) count 1 f.1 j g.wide).0
      (rw g.marked at (backward_in (open_slots marks count) m j enough i))

  free_slots : FreeSlots s.slots f.1 taken
  free_slots = record {
    above = λ j i. (is_free j i).0;
    within = λ j i. omega (arith, (is_free j i).1, g.size);
    off = λ j i. (is_free j i).2;
    apart = backward_apart (open_slots marks count) (rises marks 1 (count - 1)) m enough;
  }

  many : length taken ≡ m
  many = length_backward (open_slots marks count) m

  siblings_many : length (siblings_from d x.node n) ≡ m
  siblings_many = length_siblings x.node.depth m x.node.first n

  module _ {nodes : List Node} (is : nodes ≡ siblings_from d found.node n) where
    nodes_are : nodes ≡ siblings_from d x.node n
    nodes_are = rw node_same at is

    pub is_able : Able s count (length nodes) marks
    is_able = record { power = g.power; size = g.size; room = omega (arith, ap length nodes_are, siblings_many, enough) }

    links_new : links_for (open_slots marks count) nodes row ≡ new_links k d x n taken
    links_new =
        let h : Node → List ℕ = value_from k.generator.expansion d x.node x.value in
        let sib = siblings_from d x.node n in
        let v : (j : ℕ) → j < length sib → get_or row j [] ≡ h (get_or sib j root_node) = λ j l.
        rw g.kept (value_at_is h sib (replicate (max_levels - length (sibling_values k.generator.expansion d x.node x.value n)) (zeros value_length)) j l) in
        ap (λ (l : List Node). links_for (open_slots marks count) l row) nodes_are
        ∙ links_are (open_slots marks count) sib row h v
        ∙ ap (λ (j : ℕ). links_in (backward (open_slots marks count) j) (valued h sib)) siblings_many

    next_is : found.next ≡ entry back 0
    next_is = ap (λ (z : Found). z.next) g.finds

    before_is : found.before ≡ last_slot 0 front
    before_is = ap (λ (z : Found). z.before) g.finds

    slot_is : found.slot ≡ x.slot
    slot_is = ap (λ (z : Found). z.slot) g.finds

    last_in : (last_slot 0 front ≡ 0) ⊎ In (last_slot 0 front) (slots_of f.1)
    last_in = elim (last_cases 0 front) [
      | inl e ↦ inl e
      | inr i ↦ inr (rw g.chain (slot_left (last_slot 0 front) front (x ∷ back) i))
    ]

    last_within : last_slot 0 front < length s.slots
    last_within = elim last_in [
      | inl e ↦ omega (arith, e, stands.within)
      | inr i ↦ (file.slots (last_slot 0 front) i).1
    ]

    last_off : In (last_slot 0 front) (slots_of (new_links k d x n taken)) → ⊥
    last_off i =
        let j = is_free (last_slot 0 front) (links_within taken _ (last_slot 0 front) i) in
        elim last_in [
          | inl e ↦ omega (arith, e, j.0)
          | inr q ↦ j.2 q
        ]

    laid_new : (r : Result ℕ Halt) (t : State) → Laid s.slots (links_for (open_slots marks count) nodes row) found.next r t → Laid s.slots (new_links k d x n taken) (entry back 0) r t
    laid_new r t l = rw (links_new, next_is) at l

    by_writes : {r : Result (Unit {0}) Halt} {t : State} → Ran s.slots (redeem_writes s.slots front x back (new_links k d x n taken)) r t → Puncturing k d s.slots f front x back n r t
    by_writes a = record { taken = taken; free = free_slots; many = many; ran = a }

    pub cut_records : {t : State} {h : Halt} → Laid s.slots (links_for (open_slots marks count) nodes row) found.next (Err h) t →
        Puncturing k d s.slots f front x back n (Err h) t
    cut_records {t = t} {h = h} l = by_writes (plan_cut s.slots front x back (new_links k d x n taken) last_within stands.within last_off (laid_new (Err h) t l))

    pub may_join : {t : State} {i : ℕ} → Laid s.slots (links_for (open_slots marks count) nodes row) found.next (Ok i) t → (found.before < length t.slots) × (t.power ≡ true)
    may_join {t = t} {i = i} l =
        let p = (laid_new (Ok i) t l).1 in
        (omega (arith, done_long p, before_is, last_within), done_power p)

    pub cut_join : {t u : State} {i : ℕ} {h : Halt} → Laid s.slots (links_for (open_slots marks count) nodes row) found.next (Ok i) t →
        Stepped t (write_of found.before (relinked i (get_or t.slots found.before [])) Join) (Err h) u → Puncturing k d s.slots f front x back n (Err h) u
    cut_join {t = t} {i = i} l w = by_writes (plan_join s.slots front x back (new_links k d x n taken) last_within stands.within last_off (laid_new (Ok i) t l) (rw before_is at w))

    pub punctured : {t u v : State} {i : ℕ} {r : Result (Unit {0}) Halt} → Laid s.slots (links_for (open_slots marks count) nodes row) found.next (Ok i) t →
        Stepped t (write_of found.before (relinked i (get_or t.slots found.before [])) Join) (Ok tt) u →
        Stepped u (write_of found.slot blank Erasure) r v → Puncturing k d s.slots f front x back n r v
    punctured {t = t} {i = i} l w z =
        by_writes (plan_done s.slots front x back (new_links k d x n taken) last_within stands.within last_off (laid_new (Ok i) t l) (rw before_is at w) (rw slot_is at z))

-- ---- from its steps
module _ (d : ℕ) (s : State) (count : ℕ) (found : Found) (n : ℕ) (row : List (List ℕ)) (marks : List ℕ) where
  pub no_siblings : (r : Result (Unit {0}) Halt) → d ≤ max_levels → (Above d found.node n → ⊥) → Punctures d s count found n row marks r s
  unfolding Punctures
  no_siblings r m none k f front x back v = absurd (none (way_down v m))

  pub records_cut : (nodes : List Node) (h : Halt) (r : Result (Unit {0}) Halt) (t : State) → nodes ≡ siblings_from d found.node n → Recorded s count nodes row marks found.next (Err h) t → r ≡ Err h →
      Punctures d s count found n row marks r t
  unfolding Punctures Recorded
  records_cut nodes h r t is a e k f front x back v = rw e (cut_records v is (a (is_able v is)))

  pub join_cut : (nodes : List Node) (i : ℕ) (h : Halt) (r : Result (Unit {0}) Halt) (t u : State) → nodes ≡ siblings_from d found.node n → Recorded s count nodes row marks found.next (Ok i) t →
      Joins t found.before i (Err h) u → r ≡ Err h → Punctures d s count found n row marks r u
  unfolding Punctures Recorded Joins
  join_cut nodes i h r t u is a b e k f front x back v =
      let l = a (is_able v is) in
      let m = may_join v is l in
      rw e (cut_join v is l (b m.0 m.1))

  pub all_done : (nodes : List Node) (i : ℕ) (r : Result (Unit {0}) Halt) (t u w : State) → nodes ≡ siblings_from d found.node n → Recorded s count nodes row marks found.next (Ok i) t →
      Joins t found.before i (Ok tt) u → Stepped u (write_of found.slot blank Erasure) r w → Punctures d s count found n row marks r w
  unfolding Punctures Recorded Joins
  all_done nodes i r t u w is a b z k f front x back v =
      let l = a (is_able v is) in
      let m = may_join v is l in
      punctured v is l (b m.0 m.1) z

pub ruleset puncturing = (no_siblings, records_cut, join_cut, all_done)
