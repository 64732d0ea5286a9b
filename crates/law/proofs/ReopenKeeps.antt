-- A reopening keeps what holds, and once it has swept, every slot off the chain is zero.
use Rattle.std.proofs.Common.{◌≡◌, ℕ, zero, suc, ◌+◌, ◌-◌, ◌<◌, ◌≤◌, Bool, true, false, cond, ◌||◌, ◌⊎◌, List, [], ◌∷◌, length, get_or, take, drop, Err, Result, sym, refl, ap, ◌∙◌, inl, inr, arith, length-drop, get_or-drop}
use Rattle.std.proofs.lemmas.Bool.{both_ways, cases_Bool, false_from_ne_true, or_parts}
use Rattle.device.specs.Effects.{Slot, Slots, blank, State}
use Rattle.fault.specs.declared.Halt.{Halt}
use Rattle.fault.specs.declared.Step.TheVariants.{Sweep}
use Rattle.tree.specs.Cover.{In}
use Rattle.tree.proofs.Members.{in_left, in_right, in_cases}
use Rattle.chain.specs.Reading.{Link, slots_of}
use Rattle.calls.specs.Kits.{Kit}
use Rattle.steps.specs.OneStep.{Write}
use Rattle.steps.specs.Writes.{stood}
use Rattle.octets.specs.Buffers.{is_blank}
use Rattle.calls.specs.Files.{holds, sweep_from, sweep_writes}
use Rattle.calls.specs.Calls.{Reopening, declined, stopped, faulty, cut, swept}
use Rattle.calls.specs.Books.{Book}
use Rattle.calls.specs.Pasts.{running, cold, mode_of}
use Rattle.law.specs.Law.{RestBlank}
use Rattle.law.proofs.Invariant.{file_for, Inv}
use Rattle.steps.proofs.Plans.{length_stood}
use Rattle.calls.proofs.Held.{holds_in, in_holds}
use Rattle.law.proofs.Frames.{in_take, kept, written, slot_after, Aside, aside_take, stands_aside}
use Rattle.law.proofs.Readings.{inv_read, moved, cooled}

-- ---- slots of zeros
-- a slot that holds nothing but zeros is a whole slot of zeros
abbrev pub Whole : Slots → Type 0
Whole s = (i : ℕ) → i < length s → is_blank (get_or s i []) ≡ true → get_or s i [] ≡ blank

-- bytes that are a whole slot of zeros, or not all zero
abbrev pub Definite : Slot → Type 0
Definite b = (b ≡ blank) ⊎ (is_blank b ≡ false)

pub whole_stood : (ws : List Write) (s : Slots) → ((w : Write) → In w ws → Definite w.bytes) → Whole s → Whole (stood s ws)
whole_stood ws s f h i l e = grind (arith, length_stood, slot_after, kept, written)

-- ---- the writes of a sweep
abbrev zeroed : ℕ → Write
zeroed i = record { slot = i; bytes = blank; step = Sweep }

in_cond : (c : Bool) (w v : Write) → In w (cond c [] (v ∷ [])) → (c ≡ false) × (w ≡ v)
in_cond true w v m = absurd m
in_cond false w v (inl e) = (refl, e)
in_cond false w v (inr m) = absurd m

-- each is of zeros, to a slot from i on that is not one of ps
record Sweeping (i : ℕ) (ps : List ℕ) (w : Write) : Type 0 where
  from : i ≤ w.slot
  off : In w.slot ps → ⊥
  zeros : w.bytes ≡ blank

swept_write : (bs : Slots) (i : ℕ) (ps : List ℕ) (w : Write) → In w (sweep_from i bs ps) → Sweeping i ps w
swept_write [] i ps w m = absurd m
swept_write (b ∷ bs) i ps w m =
    elim (in_cases w (cond (holds ps i || is_blank b) [] (zeroed i ∷ [])) (sweep_from (suc i) bs ps) m) [
      | inl a ↦
          let c = in_cond (holds ps i || is_blank b) w (zeroed i) a in
          let h = (or_parts (holds ps i) (is_blank b) c.0).0 in
          let v : Sweeping i ps (zeroed i) = record { from = omega arith; off = λ n. both_ways (holds ps i) h (in_holds ps i n); zeros = refl } in
          rw c.1 v
      | inr a ↦
          let r = swept_write bs (suc i) ps w a in
          record { from = omega (arith, r.from); off = r.off; zeros = r.zeros }
    ]

-- and there is one to each such slot that is not zero
swept_slot : (bs : Slots) (i : ℕ) (ps : List ℕ) (j : ℕ) → j < length bs → (In (i + j) ps → ⊥) → is_blank (get_or bs j []) ≡ false → In (zeroed (i + j)) (sweep_from i bs ps)
swept_slot [] i ps j h off e = absurd (omega arith)
swept_slot (b ∷ bs) i ps zero h off e = grind (arith, false_from_ne_true, holds_in, in_left)
swept_slot (b ∷ bs) i ps (suc j) h off e =
    let z : i + suc j ≡ suc i + j = omega arith in
    in_right (zeroed (i + suc j)) (cond (holds ps i || is_blank b) [] (zeroed i ∷ [])) (sweep_from (suc i) bs ps)
    (rw z (swept_slot bs (suc i) ps j (omega arith) (rw z at off) e))

-- ---- of a file
sweep_aside : (s : Slots) (xs : List Link) → Aside xs (sweep_writes s xs)
sweep_aside s xs w m = let r = swept_write (drop 1 s) 1 (slots_of xs) w m in (r.from, r.off)

sweep_definite : (s : Slots) (xs : List Link) (w : Write) → In w (sweep_writes s xs) → Definite w.bytes
sweep_definite s xs w m = inl (swept_write (drop 1 s) 1 (slots_of xs) w m).zeros

sweep_rest : (s : Slots) (xs : List Link) → Whole s → RestBlank (stood s (sweep_writes s xs)) xs
sweep_rest s xs whole i above within off =
    let n = length_stood s (sweep_writes s xs) in
    let m = length-drop 1 s in
    let z : 1 + (i - 1) ≡ i = omega arith in
    elim (slot_after s (sweep_writes s xs) i (omega arith)) [
      | kept u g ↦ g ∙ elim (cases_Bool (is_blank (get_or s i []))) [
        | inl t ↦ whole i (omega arith) t
        | inr f ↦
            let e : get_or (drop 1 s) (i - 1) [] ≡ get_or s i [] = get_or-drop 1 s (i - 1) [] ∙ ap (λ (j : ℕ). get_or s j []) z in
            let w : In (zeroed (1 + (i - 1))) (sweep_writes s xs) = swept_slot (drop 1 s) 1 (slots_of xs) (i - 1) (omega arith) (rw z off) (ap is_blank e ∙ f) in
            absurd (u (zeroed (1 + (i - 1))) w (sym z))
      ]
      | written w k g ↦ g ∙ (swept_write (drop 1 s) 1 (slots_of xs) w k).zeros
    ]

-- of slots of which those that hold nothing but zeros are whole
module _ {k : Kit} {d : ℕ} {root name : List ℕ} {s : State} {b : Book} (whole : Whole s.slots) (v : Inv k d root name cold s b) where
  -- nothing was written
  refused : {h : Halt} {r : Result (Unit {0}) Halt} (t : State) → r ≡ Err h → t.slots ≡ s.slots → Inv k d root name (mode_of r) t b × Whole t.slots
  refused t e q = rw e (cooled t v q, rw q whole)

  -- some of the sweep's writes stand
  partly : (m : ℕ) (t : State) → t.slots ≡ stood s.slots (take m (sweep_writes s.slots v.links)) → Inv k d root name cold t b × Whole t.slots
  partly m t q =
      let ws = sweep_writes s.slots v.links in (
        moved v (rw q (stands_aside (take m ws) (aside_take v.links m ws (sweep_aside s.slots v.links)) v.stands)) v.covers (λ e. absurd (cc)) (λ e. absurd (cc)),
        rw q (whole_stood (take m ws) s.slots (λ u i. sweep_definite s.slots v.links u (in_take u m ws i)) whole),
      )

  -- all of them stand
  wholly : (t : State) → t.slots ≡ stood s.slots (sweep_writes s.slots v.links) → t.power ≡ true → Inv k d root name running t b × Whole t.slots
  wholly t q p =
      let ws = sweep_writes s.slots v.links in (
        moved v (rw q (stands_aside ws (sweep_aside s.slots v.links) v.stands)) v.covers (λ e. p) (λ e. rw q (sweep_rest s.slots v.links whole)),
        rw q (whole_stood ws s.slots (sweep_definite s.slots v.links) whole),
      )

pub reopen_holds : {k : Kit} {d : ℕ} {root name : List ℕ} {s : State} {b : Book} {marks : ℕ} {r : Result (Unit {0}) Halt} {t : State} →
    d ≤ 16 → Whole s.slots → Inv k d root name cold s b → Reopening k d s marks r t → Inv k d root name (mode_of r) t b × Whole t.slots
reopen_holds {t = t} small w v (declined h e q z) = refused w v t q (ap (λ (x : State). x.slots) z)
reopen_holds {t = t} small w v (stopped e q z p) = refused w v t q z
reopen_holds {t = t} small w v (faulty h e a q z p) = refused w v t q z
reopen_holds {k = k} {name = name} {b = b} {t = t} small w v (cut f m h e a c q p) =
    let r = inv_read small v in
    let file : f ≡ file_for k name b.issued v.links = cc in
    rw q (partly w v m t (rw file at c.slots))
reopen_holds {k = k} {name = name} {b = b} {t = t} small w v (swept f e a z q p) =
    let r = inv_read small v in
    let file : f ≡ file_for k name b.issued v.links = cc in
    rw q (wholly w v t (rw file at z) p)
