-- A chain in which new records come into the place of one: the records, the join, and the erasure.
use Rattle.std.proofs.Common.{◌≡◌, ℕ, ◌<◌, List, [], ◌∷◌, ◌++◌, map, length, get_or, take, set, sym, refl, ap, ◌∙◌, subst, inl, inr, arith}
use Rattle.std.proofs.lemmas.Bool.{cases_eq}
use Rattle.std.proofs.lemmas.List.{length-set, length_push, get_or-set_same, get_or-set_other}
use Rattle.octets.proofs.Fielded.{bytes2}
use Rattle.device.specs.Effects.{Slots, blank}
use Rattle.fault.specs.declared.Step.TheVariants.{NewRecord}
use Rattle.layout.specs.Records.{encode_head, encode_node, relinked}
use Rattle.tree.specs.Cover.{In, Distinct}
use Rattle.tree.specs.Values.{Valued}
use Rattle.tree.proofs.Members.{in_cases}
use Rattle.chain.specs.Reading.{Link, valued_of, slots_of}
use Rattle.calls.specs.Kits.{Kit}
use Rattle.steps.specs.OneStep.{Write}
use Rattle.steps.specs.Writes.{stood}
use Rattle.chain.specs.Listing.{entry}
use Rattle.chain.specs.Sound.{last_slot}
use Rattle.calls.specs.Files.{record_of, links_in, new_writes, join_write, erase_write, redeem_writes, FreeSlots}
use Rattle.law.specs.Law.{RestBlank}
use Rattle.law.proofs.Invariant.{Linked, head_for, Stands}
use Rattle.steps.proofs.Plans.{stood_append, length_stood}
use Rattle.law.proofs.Frames.{stood_other, count_least, count_kept, linked_set, Aside, aside_take, stands_aside}
use Rattle.chain.proofs.Members.{slot_left, slot_right, slot_cases, last_cases}
use Rattle.law.proofs.Chains.{apart_parts, apart_append, entry_append, linked_append, linked_parts, linked_slot}

-- ---- leading on to another index
relink_node : (i j : ℕ) (x : Link) → relinked i (record_of x j) ≡ record_of x i
unfolding encode_node
relink_node i j x = rw (bytes2 x.node.first, bytes2 j)

relink_head : (k : Kit) (d : ℕ) (name : List ℕ) (issued i j : ℕ) → relinked i (encode_head d (head_for k name issued j)) ≡ encode_head d (head_for k name issued i)
unfolding encode_head
relink_head k d name issued i j = rw (bytes2 j)

-- ---- links put into slots
pub links_slots : (fs : List ℕ) (vs : List Valued) → length fs ≡ length vs → slots_of (links_in fs vs) ≡ fs
links_slots [] vs e = refl
links_slots (f ∷ fs) [] e = absurd (omega arith)
links_slots (f ∷ fs) (v ∷ vs) e = ap (λ (l : List ℕ). f ∷ l) (links_slots fs vs (omega arith))

pub links_valued : (fs : List ℕ) (vs : List Valued) → length fs ≡ length vs → map valued_of (links_in fs vs) ≡ vs
links_valued [] [] e = refl
links_valued [] (v ∷ vs) e = absurd (omega arith)
links_valued (f ∷ fs) [] e = absurd (omega arith)
links_valued (f ∷ fs) (v ∷ vs) e = ap (λ (l : List Valued). v ∷ l) (links_valued fs vs (omega arith))

-- ---- the new records
abbrev new_write : Link → ℕ → Write
new_write x i = record { slot = x.slot; bytes = record_of x i; step = NewRecord }

pub length_writes : (xs : List Link) (i : ℕ) → length (new_writes xs i) ≡ length xs
length_writes [] i = refl
length_writes (x ∷ xs) i = omega (arith, length_push (new_writes xs i) (new_write x (entry xs i)), length_writes xs i)

-- they go to their own slots only
new_slots : (xs : List Link) (i : ℕ) (w : Write) → In w (new_writes xs i) → In w.slot (slots_of xs)
new_slots [] i w m = absurd m
new_slots (x ∷ xs) i w m =
    elim (in_cases w (new_writes xs i) (new_write x (entry xs i) ∷ []) m) [
      | inl a ↦ inr (new_slots xs i w a)
      | inr b ↦ elim b [ inl q ↦ inl (ap (λ (u : Write). u.slot) q) | inr n ↦ absurd n ]
    ]

-- and stand there, linked
new_linked : (s : Slots) (xs : List Link) (i : ℕ) → Distinct (slots_of xs) → ((j : ℕ) → In j (slots_of xs) → 0 < j) → ((j : ℕ) → In j (slots_of xs) → j < length s) →
    Linked (stood s (new_writes xs i)) xs i
new_linked s [] i a low high = tt
new_linked s (x ∷ xs) i a low high =
    let ws = new_writes xs i in
    let u = stood s ws in
    let b = record_of x (entry xs i) in
    let t = set u x.slot b in
    let e : stood s (ws ++ (new_write x (entry xs i) ∷ [])) ≡ t = stood_append s ws (new_write x (entry xs i) ∷ []) in
    let h : x.slot < length u = rw length_stood (high x.slot (inl refl)) in
    let l = new_linked s xs i a.1 (λ j p. low j (inr p)) (λ j p. high j (inr p)) in
    subst (λ (z : Slots). Linked z (x ∷ xs) i) (sym e) (low x.slot (inl refl), rw length-set h, get_or-set_same u x.slot b [] h, linked_set u xs i x.slot b a.0 l)

-- ---- the join
last_in : (y : Link) (ys : List Link) → In (last_slot y.slot ys) (slots_of (y ∷ ys))
last_in y [] = inl refl
last_in y (z ∷ zs) = inr (last_in z zs)

relink_linked : (s : Slots) (y : Link) (ys : List Link) (j i : ℕ) → Distinct (slots_of (y ∷ ys)) → Linked s (y ∷ ys) j →
    Linked (set s (last_slot y.slot ys) (relinked i (get_or s (last_slot y.slot ys) []))) (y ∷ ys) i
relink_linked s y [] j i a l = grind (arith, length-set, get_or-set_same, relink_node)
relink_linked s y (z ∷ zs) j i a l =
    let p = last_slot z.slot zs in
    let b = relinked i (get_or s p []) in
    (l.0, rw length-set l.1, get_or-set_other s p y.slot b [] (λ q. a.0 (subst (λ (w : ℕ). In w (slots_of (z ∷ zs))) (sym q) (last_in z zs))) ∙ l.2, relink_linked s z zs j i a.1 l.3)

-- the slots with the end of the front leading on to i
abbrev joined_to : Slots → List Link → ℕ → Slots
joined_to s front i = set s (last_slot 0 front) (relinked i (get_or s (last_slot 0 front) []))

join_linked : (s : Slots) (front : List Link) (j i : ℕ) → Distinct (slots_of front) → Linked s front j → Linked (joined_to s front i) front i
join_linked s [] j i a l = tt
join_linked s (y ∷ ys) j i a l = relink_linked s y ys j i a l

join_head : (k : Kit) (d : ℕ) (name : List ℕ) (issued : ℕ) (s : Slots) (front : List Link) (j i : ℕ) → 0 < length s → Linked s front j →
    get_or s 0 [] ≡ encode_head d (head_for k name issued (entry front j)) → get_or (joined_to s front i) 0 [] ≡ encode_head d (head_for k name issued (entry front i))
join_head k d name issued s [] j i z l h = get_or-set_same s 0 (relinked i (get_or s 0 [])) [] z ∙ ap (relinked i) h ∙ relink_head k d name issued i j
join_head k d name issued s (y ∷ ys) j i z l h =
    let p = last_slot y.slot ys in
    let o = linked_slot s (y ∷ ys) j p l (last_in y ys) in
    get_or-set_other s p 0 (relinked i (get_or s p [])) [] (λ q. omega arith) ∙ h

-- new links in free slots, which can come into the place of x
pub record Fresh (k : Kit) (d : ℕ) (name : List ℕ) (issued : ℕ) (s : Slots) (front : List Link) (x : Link) (back new : List Link) : Type 0 where
  pub stands : Stands k d name issued s (front ++ (x ∷ back))
  pub free : FreeSlots s (front ++ (x ∷ back)) (slots_of new)

-- once they stand linked beside the chain, the join puts them into the place of x
join_stands : {k : Kit} {d : ℕ} {name : List ℕ} {issued : ℕ} {s : Slots} {front : List Link} {x : Link} {back new : List Link} →
    Fresh k d name issued s front x back new → Linked s new (entry back 0) → Stands k d name issued (joined_to s front (entry new (entry back 0))) (front ++ (new ++ back))
join_stands {k = k} {d = d} {name = name} {issued = issued} {s = s} {front = front} {x = x} {back = back} {new = new} z l =
    let st = z.stands in
    let i = entry new (entry back 0) in
    let p = last_slot 0 front in
    let b = relinked i (get_or s p []) in
    let t = joined_to s front i in
    let n : length t ≡ length s = length-set s p b in
    let e : entry (new ++ back) 0 ≡ i = entry_append new back 0 in
    let parts = linked_parts s front (x ∷ back) 0 st.links in
    let apart = apart_parts front (x ∷ back) st.apart in
    let ft : Linked t front i = join_linked s front x.slot i apart.front parts.0 in
    let off_new : In p (slots_of new) → ⊥ = λ m.
    elim (last_cases 0 front) [
      | inl e ↦ let o = z.free.above p m in omega arith
      | inr f ↦ z.free.off p m (slot_left p front (x ∷ back) f)
    ] in
    let off_back : In p (slots_of back) → ⊥ = λ m.
    elim (last_cases 0 front) [
      | inl e ↦ let o = linked_slot s back 0 p parts.1.3 m in omega arith
      | inr f ↦ apart.cross p f (inr m)
    ] in
    let nt : Linked t new (entry back 0) = linked_set s new (entry back 0) p b off_new l in
    let bt : Linked t back 0 = linked_set s back 0 p b off_back parts.1.3 in
    record {
      fits = count_kept d s t n st.fits;
      head = rw (entry_append front (new ++ back) 0, e)
          (join_head k d name issued s front x.slot i (omega (arith, count_least d s st.fits)) parts.0 (rw (entry_append front (x ∷ back) 0) at st.head));
      links = linked_append t front (new ++ back) 0 (rw e ft) (linked_append t new back 0 nt bt);
      apart = apart_append front (new ++ back) (record {
        front = apart.front;
        back = apart_append new back (record { front = z.free.apart; back = apart.back.1; cross = λ j m o. z.free.off j m (slot_right j front (x ∷ back) (inr o)) });
        cross = λ j m o. elim (slot_cases j new back o) [
          | inl c ↦ z.free.off j c (slot_left j front (x ∷ back) m)
          | inr c ↦ apart.cross j m (inr c)
        ];
      });
    }

-- ---- the writes of a redemption, in order: new records in free slots, the join, the erasure of x
module _ {k : Kit} {d : ℕ} {name : List ℕ} {issued : ℕ} {s : Slots} {front : List Link} {x : Link} {back new : List Link} (z : Fresh k d name issued s front x back new) where
  abbrev ws : List Write
  ws = new_writes new (entry back 0)

  abbrev join : Write
  join = join_write s front (entry new (entry back 0))

  new_aside : Aside (front ++ (x ∷ back)) ws
  new_aside w m = let i = new_slots new (entry back 0) w m in (z.free.above w.slot i, z.free.off w.slot i)

  -- while the join does not stand the chain is as it was
  pub unjoined : (m : ℕ) → Stands k d name issued (stood s (take m ws)) (front ++ (x ∷ back))
  unjoined m = stands_aside (take m ws) (aside_take (front ++ (x ∷ back)) m ws new_aside) z.stands

  laid : Fresh k d name issued (stood s ws) front x back new
  laid = record { stands = stands_aside ws new_aside z.stands; free = record { above = z.free.above; within = rw length_stood z.free.within; off = z.free.off; apart = z.free.apart } }

  -- the join's slot holds what it held before the new records
  join_same : get_or (stood s ws) (last_slot 0 front) [] ≡ get_or s (last_slot 0 front) []
  join_same =
      let p = last_slot 0 front in
      stood_other s ws p (λ w m e.
      let n : In p (slots_of new) = rw e (new_slots new (entry back 0) w m) in
      elim (last_cases 0 front) [
        | inl q ↦ let o : 0 < p = z.free.above p n in omega arith
        | inr f ↦ z.free.off p n (slot_left p front (x ∷ back) f)
      ])

  after_join : stood s (ws ++ (join ∷ [])) ≡ joined_to (stood s ws) front (entry new (entry back 0))
  after_join = grind (arith, stood_append, join_same)

  -- once the join stands, the new records are in the place of x
  pub joins : Stands k d name issued (stood s (ws ++ (join ∷ []))) (front ++ (new ++ back))
  joins = rw after_join (join_stands laid (new_linked s new (entry back 0) z.free.apart z.free.above z.free.within))

  x_off : In x.slot (slots_of (front ++ (new ++ back))) → ⊥
  x_off m =
      let apart = apart_parts front (x ∷ back) z.stands.apart in
      elim (slot_cases x.slot front (new ++ back) m) [
        | inl f ↦ apart.cross x.slot f (inl refl)
        | inr r ↦ elim (slot_cases x.slot new back r) [
          | inl n ↦ z.free.off x.slot n (slot_right x.slot front (x ∷ back) (inl refl))
          | inr b ↦ apart.back.0 b
        ]
      ]

  after_all : stood s (redeem_writes s front x back new) ≡ stood (stood s (ws ++ (join ∷ []))) (erase_write x ∷ [])
  after_all = grind (arith, stood_append)

  -- and the erasure leaves them so
  pub erases : Stands k d name issued (stood s (redeem_writes s front x back new)) (front ++ (new ++ back))
  erases =
      let o = linked_slot s (front ++ (x ∷ back)) 0 x.slot z.stands.links (slot_right x.slot front (x ∷ back) (inl refl)) in
      rw after_all (stands_aside (erase_write x ∷ []) (λ w m. elim m [ inl q ↦ rw q (o.0, x_off) | inr n ↦ absurd n ]) joins)

  -- a slot that is neither the head's nor on the new chain, nor x's, holds what it held
  rest_same : (i : ℕ) → 0 < i → (In i (slots_of (front ++ (new ++ back))) → ⊥) → get_or (stood s (ws ++ (join ∷ []))) i [] ≡ get_or s i []
  rest_same i o m =
      stood_other s (ws ++ (join ∷ [])) i (λ w p e.
      elim (in_cases w ws (join ∷ []) p) [
        | inl a ↦ m (slot_right i front (new ++ back) (slot_left i new back (rw e (new_slots new (entry back 0) w a))))
        | inr b ↦ elim b [
          | inl q ↦
              let y : i ≡ last_slot 0 front = e ∙ ap (λ (u : Write). u.slot) q in
              elim (last_cases 0 front) [
                | inl l ↦ omega arith
                | inr f ↦ m (slot_left i front (new ++ back) (rw y f))
              ]
          | inr n ↦ absurd n
        ]
      ])

  -- where all besides the chain was zero, it is so again
  pub rest_blank : RestBlank s (front ++ (x ∷ back)) → RestBlank (stood s (redeem_writes s front x back new)) (front ++ (new ++ back))
  rest_blank r i o h m =
      let w = stood s (ws ++ (join ∷ [])) in
      let e : get_or (stood s (redeem_writes s front x back new)) i [] ≡ get_or (set w x.slot blank) i [] = ap (λ (u : Slots). get_or u i []) after_all in
      let hs : i < length s = rw (length_stood s (redeem_writes s front x back new)) at h in
      let lw = length_stood s (ws ++ (join ∷ [])) in
      let xs = linked_slot s (front ++ (x ∷ back)) 0 x.slot z.stands.links (slot_right x.slot front (x ∷ back) (inl refl)) in
      elim (cases_eq i x.slot) [
        | inl q ↦ e ∙ ap (λ (n : ℕ). get_or (set w x.slot blank) n []) q ∙ get_or-set_same w x.slot blank [] (omega arith)
        | inr q ↦ e ∙ get_or-set_other w x.slot i blank [] q ∙ rest_same i o m ∙ r i o hs (λ c.
            elim (slot_cases i front (x ∷ back) c) [
              | inl f ↦ m (slot_left i front (new ++ back) f)
              | inr y ↦ elim y [ inl n ↦ q n | inr b ↦ m (slot_right i front (new ++ back) (slot_right i new back b)) ]
            ])
      ]
