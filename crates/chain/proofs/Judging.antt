-- From the walk to what reading comes to.
use Rattle.std.proofs.Common.{◌≡◌, ℕ, ◌^◌, true, false, cond, ltb, List, length, Some, None, Ok, Err, Option, Result, refl, ap, ◌∙◌, arith}
use Rattle.std.specs.Option.{unwrap_or}
use Rattle.std.specs.Result.{is_err}
use Rattle.refusal.specs.declared.Refusal.TheVariants.{Uncovered}
use Rattle.fault.specs.declared.Halt.{Halt}
use Rattle.fault.specs.Faults.{placed}
use Rattle.device.specs.Effects.{State}
use Rattle.layout.specs.declared.Head.{Head}
use Rattle.layout.specs.declared.Numbers.{Numbers}
use Rattle.marks.specs.Rows.{room_of}
use Rattle.chain.specs.declared.Survey.{Survey}
use Rattle.chain.specs.declared.Tally.{Tally}
use Rattle.chain.specs.Reading.{Link, Sound, judged, chain_of, file_of}
use Rattle.octets.specs.Buffers.{zeros}
use Rattle.chain.specs.Listing.{tally_of, none_yet, marked_all}
use Rattle.chain.specs.Outcome.{reading_of, answer_of, marks_of, head_read}

-- ---- the walk, then the numbers that are not issued
pub judge_err : (d n : ℕ) (h : Head) (w : Result (List Link) Halt) (f : Halt) → Err f ≡ tally_of d n (none_yet h.issued) 0 w → Err f ≡ answer_of d (Some n) (judged d h w)
judge_err d n h (Err g) f e = cc
judge_err d n h (Ok xs) f e = absurd (cc)

-- the answer that a tally leads to
abbrev pub finished : ℕ → Head → Tally → Result Survey Halt
finished d h t = cond (ltb t.lowest (2 ^ d)) (Err (placed Uncovered t.lowest)) (Ok (record { head = h; length = t.length; found = t.found }))

pub judge_ok : (d n : ℕ) (h : Head) (w : Result (List Link) Halt) (t : Tally) → Ok t ≡ tally_of d n (none_yet h.issued) 0 w → answer_of d (Some n) (judged d h w) ≡ finished d h t
judge_ok d n h (Err f) t e = absurd (cc)
judge_ok d n h (Ok xs) t e = grind arith

pub judge_walk : (d : ℕ) (h k : Head) (w : Result (List Link) Halt) (xs : List Link) → judged d h w ≡ Ok (k, xs) → w ≡ Ok xs
judge_walk d h k (Err f) xs e = absurd (cc)
judge_walk d h k (Ok ys) xs e = grind arith

-- ---- the head
pub head_err : (d : ℕ) (numbers : Numbers) (m : ℕ) (s : State) (f : Halt) → ltb m (room_of (length s.slots)) ≡ false → Err f ≡ head_read d numbers s → reading_of d numbers m s ≡ Err f
unfolding file_of
head_err d numbers m s f r e = grind arith

pub head_ok : (d : ℕ) (numbers : Numbers) (m : ℕ) (s : State) (h : Head) → ltb m (room_of (length s.slots)) ≡ false → Ok h ≡ head_read d numbers s →
    (s.power ≡ true) × (reading_of d numbers m s ≡ chain_of d h s.slots)
unfolding file_of
head_ok d numbers m s h r e = grind arith

-- ---- the number asked for
pub asked_is : (d : ℕ) (o : Option ℕ) (h : Head) (w : Result (List Link) Halt) → answer_of d o (judged d h w) ≡ answer_of d (Some (unwrap_or o h.issued)) (judged d h w)
asked_is d o h (Err f) = refl
asked_is d (Some n) h (Ok xs) = refl
asked_is d None h (Ok xs) = grind arith

-- ---- the marks: they go where the walk is declined
pub marks_kept : (d m : ℕ) (n : Option ℕ) (r : Result Sound Halt) (v : Result Survey Halt) (row out : List ℕ) → v ≡ answer_of d n r →
    ((h : Head) (xs : List Link) → r ≡ Ok (h, xs) → row ≡ marked_all (zeros m) xs) → (is_err v ≡ true → out ≡ zeros m) → (is_err v ≡ false → out ≡ row) → out ≡ marks_of m r
marks_kept d m n (Err h) v row out e f a b = a (ap is_err e)
marks_kept d m n (Ok g) v row out e f a b = b (ap is_err e) ∙ f g.0 g.1 refl
