-- Writes one after another: how plans are put together from their parts.
use Rattle.std.proofs.Common.{◌≡◌, ℕ, suc, ◌+◌, ◌<◌, ◌≤◌, true, ◌⊎◌, List, [], ◌∷◌, ◌++◌, length, take, set, Ok, Err, Result, sym, refl, ap, ◌∙◌, subst, inl, inr, append_assoc, add-suc, suc-add, zero-add, arith}
use Rattle.std.proofs.lemmas.List.{length-append, take-append-le}
use Rattle.std.proofs.lemmas.List.Sums.{fold-append}
use Rattle.device.specs.Effects.{Slots, State}
use Rattle.device.proofs.Writes.{length_written}
use Rattle.fault.specs.declared.Halt.{Halt}
use Rattle.steps.specs.OneStep.{Write, Stepped}
use Rattle.steps.specs.Writes.{stood, CutShort, Ran, through, failed, Wrote}

pub stood_append : (s : Slots) (ws vs : List Write) → stood s (ws ++ vs) ≡ stood (stood s ws) vs
stood_append = fold-append (λ s w. set s w.slot w.bytes)

pub length_stood : (s : Slots) (ws : List Write) → length (stood s ws) ≡ length s
length_stood = length_written (λ w. w.slot) (λ w. w.bytes)

-- no writes
pub ran_none : (s : Slots) (t : State) → t.slots ≡ s → t.power ≡ true → Ran s [] (Ok tt) t
ran_none s t e o = through refl e o

-- one write
pub ran_one : (s t : State) (w : Write) (r : Result (Unit {0}) Halt) → w.slot < length s.slots → Stepped s w r t → Ran s.slots (w ∷ []) r t
ran_one s t w (Ok u) h d = through refl d.2 d.3
ran_one s t w (Err e) h (inl d) =
    elim d.0 [
      | inl k ↦ absurd (omega (arith, k.0))
      | inr k ↦ failed 0 e refl (record { front = []; cut = w; back = []; are = refl; stand = inl refl; slots = ap (λ x. x.slots) d.1; halt = k.2 }) (ap (λ x. x.power) d.1 ∙ k.1)
    ]
ran_one s t w (Err e) h (inr d) =
    elim d.3 [
      | inl k ↦ failed 0 e refl (record { front = []; cut = w; back = []; are = refl; stand = inl refl; slots = k; halt = d.2 }) d.4
      | inr k ↦ failed 1 e refl (record { front = []; cut = w; back = []; are = refl; stand = inr refl; slots = k; halt = d.2 }) d.4
    ]

within : (m : ℕ) (ws front back : List Write) (w : Write) → ws ≡ front ++ (w ∷ back) → (m ≡ length front) ⊎ (m ≡ suc (length front)) → m ≤ length ws
within m ws front back w e (inl k) = let l : length ws ≡ length front + suc (length back) = ap length e ∙ length-append front (w ∷ back) in omega arith
within m ws front back w e (inr k) = let l : length ws ≡ length front + suc (length back) = ap length e ∙ length-append front (w ∷ back) in omega arith

-- a failure among the first writes is one among all
pub cut_more : (s t : Slots) (ws vs : List Write) (m : ℕ) (h : Halt) → CutShort s ws m h t → CutShort s (ws ++ vs) m h t
cut_more s t ws vs m h c = record {
  front = c.front;
  cut = c.cut;
  back = c.back ++ vs;
  are = ap (λ x. x ++ vs) c.are ∙ append_assoc c.front (c.cut ∷ c.back) vs;
  stand = c.stand;
  slots = c.slots ∙ ap (stood s) (sym (take-append-le m ws vs (within m ws c.front c.back c.cut c.are c.stand)));
  halt = c.halt;
}

clash : (u : Unit {0}) (h : Halt) → ◌≡◌ {A = Result (Unit {0}) Halt} (Err h) (Ok u) → ⊥
clash u h e = let z : ◌≡◌ {A = ℕ} 0 1 = cc in omega arith

pub ran_cut : {s : Slots} {t : State} {ws : List Write} {h : Halt} (vs : List Write) → Ran s ws (Err h) t → Ran s (ws ++ vs) (Err h) t
ran_cut vs (through e a b) = absurd (clash _ _ e)
ran_cut vs (failed m k e c o) = failed m k e (cut_more _ _ _ vs m k c) o

take_past : (ws vs : List Write) (m : ℕ) → take (length ws + m) (ws ++ vs) ≡ ws ++ take m vs
take_past [] vs m = ap (λ k. take k vs) (zero-add m)
take_past (w ∷ ws) vs m = ap (λ k. take k (w ∷ (ws ++ vs))) (suc-add (length ws) m) ∙ ap (λ x. w ∷ x) (take_past ws vs m)

-- the first writes done, and then a failure
pub cut_after : (s t v : Slots) (ws vs : List Write) (m : ℕ) (h : Halt) → t ≡ stood s ws → CutShort t vs m h v → CutShort s (ws ++ vs) (length ws + m) h v
cut_after s t v ws vs m h a c = record {
  front = ws ++ c.front;
  cut = c.cut;
  back = c.back;
  are = ap (λ x. ws ++ x) c.are ∙ sym (append_assoc ws c.front (c.cut ∷ c.back));
  stand = elim c.stand [
    | inl k ↦ inl (ap (λ x. length ws + x) k ∙ sym (length-append ws c.front))
    | inr k ↦ inr (ap (λ x. length ws + x) k ∙ add-suc (length ws) (length c.front) ∙ ap suc (sym (length-append ws c.front)))
  ];
  slots = c.slots ∙ ap (λ x. stood x (take m vs)) a ∙ sym (stood_append s ws (take m vs)) ∙ ap (stood s) (sym (take_past ws vs m));
  halt = c.halt;
}

-- the first writes done, and then the others
pub ran_then : {s : Slots} {t v : State} {ws vs : List Write} {r : Result (Unit {0}) Halt} → Ran s ws (Ok tt) t → Ran t.slots vs r v → Ran s (ws ++ vs) r v
ran_then {s = s} {ws = ws} {vs = vs} (through e a o) (through f b q) = through f (b ∙ ap (λ x. stood x vs) a ∙ sym (stood_append s ws vs)) q
ran_then {ws = ws} (through e a o) (failed m h f c q) = failed (length ws + m) h f (cut_after _ _ _ _ _ m h a c) q
ran_then (failed m h e c o) b = absurd (clash tt h (sym e))

pub done_slots : {s : Slots} {t : State} {ws : List Write} → Ran s ws (Ok tt) t → t.slots ≡ stood s ws
done_slots (through e a o) = a
done_slots (failed m h e c o) = absurd (clash tt h (sym e))

-- the power is on after writes that are all done, and there are as many slots
pub done_power : {s : Slots} {t : State} {ws : List Write} → Ran s ws (Ok tt) t → t.power ≡ true
done_power (through e a o) = o
done_power (failed m h e c o) = absurd (clash tt h (sym e))

pub done_long : {s : Slots} {t : State} {ws : List Write} → Ran s ws (Ok tt) t → length t.slots ≡ length s
done_long {s = s} {ws = ws} a = ap length (done_slots a) ∙ length_stood s ws

-- one more write after those done
pub ran_next : {s : Slots} {t v : State} {ws : List Write} (w : Write) {r : Result (Unit {0}) Halt} → Ran s ws (Ok tt) t → w.slot < length s → Stepped t w r v → Ran s (ws ++ (w ∷ [])) r v
ran_next {s = s} {t = t} w a h d =
    let l : length t.slots ≡ length s = done_long a in
    ran_then a (ran_one t _ w _ (omega arith) d)

-- the same writes under another name
pub ran_as : {s : Slots} {t : State} {ws vs : List Write} {r : Result (Unit {0}) Halt} → ws ≡ vs → Ran s ws r t → Ran s vs r t
ran_as {s = s} {t = t} {r = r} e a = subst (λ x. Ran s x r t) e a

-- as one word
pub ran_wrote : {s : Slots} {ws : List Write} {r : Result (Unit {0}) Halt} {t : State} → Wrote s ws r t → Ran s ws r t
unfolding Wrote
ran_wrote a = a

pub wrote_ran : {s : Slots} {ws : List Write} {r : Result (Unit {0}) Halt} {t : State} → Ran s ws r t → Wrote s ws r t
unfolding Wrote
wrote_ran a = a

pub wrote_none : (s : Slots) (t : State) → t.slots ≡ s → t.power ≡ true → Wrote s [] (Ok tt) t
wrote_none s t e o = wrote_ran (ran_none s t e o)
