-- What a file that is read is, and which number a file lacks.
use Rattle.std.proofs.Common.{◌≡◌, ℕ, suc, ◌^◌, ◌<◌, ◌≤◌, Bool, true, false, cond, ◌&&◌, eqb, List, [], get_or, Some, None, Option, Ok, Err, Result, refl, subst, inl, inr, ⊎_elim, arith}
use Rattle.std.proofs.lemmas.Bool.{cases_lt}
use Rattle.refusal.specs.declared.Refusal.TheVariants.{BadHead, BadLink, Uncovered}
use Rattle.fault.specs.declared.Halt.{Halt}
use Rattle.fault.specs.Faults.{plainly, placed}
use Rattle.device.specs.Effects.{Slots}
use Rattle.layout.specs.declared.Head.{Head}
use Rattle.layout.specs.declared.Numbers.{Numbers}
use Rattle.layout.specs.Records.{head_of}
use Rattle.tree.specs.Cover.{Ordered, Reached}
use Rattle.chain.specs.Reading.{Link, Sound, walk, lowest_from, judged, bears, headed, file_of}
use Rattle.chain.specs.Sound.{nodes_of, Lowest, SoundFile, Bare, IsFileFault}
use Rattle.chain.proofs.Chains.{to_chained, from_chained, chained_order, chained_nodes, chained_slots, chained_distinct}
use Rattle.chain.proofs.Walks.{walk_err}
use Rattle.chain.proofs.Lowness.{lowest_up, lowest_covered, lowest_bare}

-- ---- which way the tests went
head_sound : (b : Bool) (v : Result Sound Halt) (h : Head) (xs : List Link) → cond b v (Err (plainly BadHead)) ≡ Ok (h, xs) → (b ≡ true) × (v ≡ Ok (h, xs))
head_sound true v h xs e = (refl, e)
head_sound false v h xs e = absurd (cc)

bad_head : (n : ℕ) → ◌≡◌ {A = Result Sound Halt} (Err (plainly BadHead)) (Err (placed Uncovered n)) → ⊥
bad_head n e = grind (arith)

head_bare : (b : Bool) (v : Result Sound Halt) (n : ℕ) → cond b v (Err (plainly BadHead)) ≡ Err (placed Uncovered n) → v ≡ Err (placed Uncovered n)
head_bare true v n e = e
head_bare false v n e = absurd (bad_head n e)

record Judged (d : ℕ) (k h : Head) (w : Result (List Link) Halt) (xs : List Link) : Type 0 where
  same : k ≡ h
  walks : w ≡ Ok xs
  full : 2 ^ d ≤ lowest_from d k.issued xs

judged_sound : (d : ℕ) (k h : Head) (w : Result (List Link) Halt) (xs : List Link) → judged d k w ≡ Ok (h, xs) → Judged d k h w xs
judged_sound d k h (Err f) xs e = absurd (cc)
judged_sound d k h (Ok ys) xs e = grind arith

record Lacks (d : ℕ) (k : Head) (w : Result (List Link) Halt) (n : ℕ) : Type 0 where
  links : List Link
  walks : w ≡ Ok links
  lowest : lowest_from d k.issued links ≡ n
  number : lowest_from d k.issued links < 2 ^ d

judged_bare : (d : ℕ) (k : Head) (w : Result (List Link) Halt) (n : ℕ) → ((h : Halt) → w ≡ Err h → h.refusal ≡ BadLink) → judged d k w ≡ Err (placed Uncovered n) → Lacks d k w n
judged_bare d k (Err h) n f e = let q : h.refusal ≡ BadLink = f h refl in absurd (cc)
judged_bare d k (Ok ys) n f e = grind arith

-- ---- what is told of a file that is at fault
judged_err : (d : ℕ) (k : Head) (w : Result (List Link) Halt) (h : Halt) → ((g : Halt) → w ≡ Err g → g.refusal ≡ BadLink) → judged d k w ≡ Err h → IsFileFault h.refusal
judged_err d k (Err g) h f e = inr (inl (f h cc))
judged_err d k (Ok xs) h f e = grind arith

head_fault : (b : Bool) (v : Result Sound Halt) (h : Halt) → cond b v (Err (plainly BadHead)) ≡ Err h → (v ≡ Err h → IsFileFault h.refusal) → IsFileFault h.refusal
head_fault true v h e f = f e
head_fault false v h e f = inl cc

-- ---- a sound file
same_numbers : (a b : Numbers) → (eqb a.generator b.generator && eqb a.sealer b.sealer) ≡ true → a ≡ b
same_numbers a b e = grind arith

module _ (d : ℕ) (numbers : Numbers) (s : Slots) where
  made : (h : Head) (xs : List Link) → head_of d (get_or s 0 []) ≡ Some h → h.numbers ≡ numbers →
      walk d (suc (2 ^ d)) s 0 None 0 h.first ≡ Ok xs → 2 ^ d ≤ lowest_from d h.issued xs → SoundFile d numbers s h xs
  made h xs e a k f =
      let c = to_chained d s (suc (2 ^ d)) 0 None 0 h.first xs k in
      record {
        head = e;
        named = a;
        chained = c;
        nodes = chained_nodes d s xs 0 None h.first c;
        ordered = chained_order d s xs 0 None h.first c;
        slots = chained_slots d s xs 0 None h.first c;
        distinct = chained_distinct d s xs 0 None h.first c;
        unissued = λ n l u. lowest_covered d h.issued xs n l (omega arith);
      }

  from_head : (o : Option Head) (h : Head) (xs : List Link) → head_of d (get_or s 0 []) ≡ o → headed d numbers s o ≡ Ok (h, xs) → SoundFile d numbers s h xs
  from_head None h xs q e = absurd (cc)
  from_head (Some k) h xs q e =
      let p = head_sound (bears k numbers) (judged d k (walk d (suc (2 ^ d)) s 0 None 0 k.first)) h xs e in
      let j = judged_sound d k h (walk d (suc (2 ^ d)) s 0 None 0 k.first) xs p.1 in
      let P : Head → Type 0 = λ z. SoundFile d numbers s z xs in
      subst P j.same (made k xs q (same_numbers k.numbers numbers p.0) j.walks j.full)

  pub to_sound : (h : Head) (xs : List Link) → file_of d numbers s ≡ Ok (h, xs) → SoundFile d numbers s h xs
  unfolding file_of
  to_sound h xs e = from_head (head_of d (get_or s 0 [])) h xs refl e

  -- with every number that is not issued under a record, none is lacking
  filled : (h : Head) (xs : List Link) → Ordered d (nodes_of xs) → ((n : ℕ) → h.issued ≤ n → n < 2 ^ d → Reached d (nodes_of xs) n) → 2 ^ d ≤ lowest_from d h.issued xs
  filled h xs o f = ⊎_elim
      (λ (l : lowest_from d h.issued xs < 2 ^ d).
      let r = f (lowest_from d h.issued xs) (lowest_up d h.issued xs) l in
      absurd (lowest_bare d h.issued xs o r.0 r.1 r.2))
      (λ (l : 2 ^ d ≤ lowest_from d h.issued xs). l)
      (cases_lt (lowest_from d h.issued xs) (2 ^ d))

  pub of_sound : (h : Head) (xs : List Link) → SoundFile d numbers s h xs → file_of d numbers s ≡ Ok (h, xs)
  unfolding file_of
  of_sound h xs f = grind (arith, from_chained, filled)

  -- ---- a file that is at fault
  headed_err : (o : Option Head) (h : Halt) → headed d numbers s o ≡ Err h → IsFileFault h.refusal
  headed_err None h e = inl cc
  headed_err (Some k) h e = grind (arith, head_fault, judged_err, walk_err)

  pub file_fault : (h : Halt) → file_of d numbers s ≡ Err h → IsFileFault h.refusal
  unfolding file_of
  file_fault h e = headed_err (head_of d (get_or s 0 [])) h e

  -- ---- a file that lacks a number
  bare_head : (o : Option Head) (n : ℕ) → head_of d (get_or s 0 []) ≡ o → headed d numbers s o ≡ Err (placed Uncovered n) → Bare d s n
  bare_head None n q e = absurd (bad_head n e)
  bare_head (Some k) n q e =
      let p = head_bare (bears k numbers) (judged d k (walk d (suc (2 ^ d)) s 0 None 0 k.first)) n e in
      let j = judged_bare d k (walk d (suc (2 ^ d)) s 0 None 0 k.first) n (walk_err d s (suc (2 ^ d)) 0 None 0 k.first) p in
      let xs = j.links in
      let c = to_chained d s (suc (2 ^ d)) 0 None 0 k.first xs j.walks in
      let o = chained_order d s xs 0 None k.first c in
      let P : ℕ → Type 0 = λ m. Lowest d k.issued (nodes_of xs) m in
      record {
        head = k;
        links = xs;
        read = q;
        chained = c;
        lowest = subst P j.lowest (record {
          from = lowest_up d k.issued xs;
          number = j.number;
          bare = λ r. lowest_bare d k.issued xs o r.0 r.1 r.2;
          below = λ m l u. lowest_covered d k.issued xs m l u;
        });
      }

  pub to_bare : (n : ℕ) → file_of d numbers s ≡ Err (placed Uncovered n) → Bare d s n
  unfolding file_of
  to_bare n e = bare_head (head_of d (get_or s 0 [])) n refl e
