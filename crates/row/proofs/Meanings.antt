-- A device that writes exactly as appointed means what its trait says. `many` tells how many slots a row of some length holds.
use Rattle.std.proofs.Common.{◌≡◌, ℕ, ◌*◌, ◌<◌, ◌≤◌, ◌⊎◌, List, [], length, get_or, take, set, Some, None, Ok, Err, Option, refl, sym, ap, ◌∙◌, inl, inr, arith, rules}
use lib.Seq.{paste}
use Rattle.std.proofs.lemmas.List.{places, set-get_or, length-take-le, take-take, take_all, drop_all, append-nil}
use Rattle.device.specs.Effects.{Slot, Slots, Answer, Writing, Tearing, torn, slot_size}
use Rattle.row.specs.Rows.{Row, slots_in, state_by, placed}
use Rattle.row.specs.Appointed.{on_after, answer_of, Counting, partly, standing_in, Struck}
use Rattle.row.proofs.Rows as rows

module _ (many : ℕ → ℕ) (room : (l : ℕ) → many l * slot_size ≤ l) where
  abbrev slots : List ℕ → Slots
  slots row = slots_in slot_size (many (length row)) row

  -- what is counted and then put in place leaves its slot torn, and every other as it was
  laid : (d : Row) (i : ℕ) (b : Slot) (n k : ℕ) (o : Option ℕ) (u d' : Row) → Counting n d i (Ok o) u → d' ≡ placed i (take k b) u → n ≡ length (slots d.row) → k ≤ slot_size → length b ≡ slot_size → (i < length (slots d.row)) × (slots d'.row ≡ set (slots d.row) i (torn k (get_or (slots d.row) i []) b)) × (d'.power ≡ on_after o)
  laid d i b n k o u d' c p m low fits =
      let count : i < many (length d.row) = omega (arith, c.0, m, rows.many slot_size (many (length d.row)) d.row) in
      let fit : many (length d.row) * slot_size ≤ length d.row = room (length d.row) in
      let row : d'.row ≡ paste d.row (i * slot_size) (take k b) (length (take k b)) = rw (p, c.3) refl in
      let same : length d'.row ≡ length d.row = ap length row ∙ search (rules, places) in
      (omega (arith, c.0, m), rw (same, row) (rows.pasted slot_size (many (length d.row)) d.row fit i k b count low fits), rw (p, c.3, c.2) refl)

  -- with all of its bytes in place a slot is new
  new : (row : List ℕ) (i : ℕ) (b : Slot) → length b ≡ slot_size → i < length (slots row) → torn slot_size (get_or (slots row) i []) b ≡ b
  new row i b fits h =
      let old : length (get_or (slots row) i []) ≡ slot_size = rows.sized slot_size (many (length row)) row (room (length row)) i (omega (arith, rows.many slot_size (many (length row)) row)) in
      rw (take_all slot_size b (omega arith), drop_all slot_size (get_or (slots row) i []) (omega arith)) (append-nil b)

  -- on a device that tears, and on one that leaves none or all of the bytes of a cut write
  pub tears : (d : Row) (i : ℕ) (b : Slot) (n k : ℕ) (o : Option ℕ) (u d' : Row) → Counting n d i (Ok o) u → d' ≡ placed i (take k b) u → n ≡ length (slots d.row) → k ≡ standing_in partly o → length b ≡ slot_size → Tearing (state_by slots d) i b (answer_of o) (state_by slots d')
  tears d i b n k None u d' c p m e fits =
      let (h, s, q) = laid d i b n k None u d' c p m (omega arith) fits in
      (h, c.1, s ∙ rw e (ap (set (slots d.row) i) (new d.row i b fits h)), q)
  tears d i b n k (Some j) u d' c p m e fits =
      let (h, s, q) = laid d i b n k (Some j) u d' c p m (omega arith) fits in
      inr (refl, h, c.1, (k, omega arith, s), q)

  pub wholes : (stand : ℕ → ℕ) → ((m : ℕ) → (stand m ≡ 0) ⊎ (stand m ≡ slot_size)) → (d : Row) (i : ℕ) (b : Slot) (n k : ℕ) (o : Option ℕ) (u d' : Row) → Counting n d i (Ok o) u → d' ≡ placed i (take k b) u → n ≡ length (slots d.row) → k ≡ standing_in stand o → length b ≡ slot_size → Writing (state_by slots d) i b (answer_of o) (state_by slots d')
  wholes stand either d i b n k None u d' c p m e fits =
      let (h, s, q) = laid d i b n k None u d' c p m (omega arith) fits in
      (h, c.1, s ∙ rw e (ap (set (slots d.row) i) (new d.row i b fits h)), q)
  wholes stand either d i b n k (Some j) u d' c p m e fits =
      let (h, s, q) = laid d i b n k (Some j) u d' c p m (grind (arith, either j)) fits in
      inr (
        refl,
        h,
        c.1,
        elim (either j) [
          | inl z ↦ inl (s ∙ rw (e, z) (set-get_or (slots d.row) i []))
          | inr z ↦ inr (s ∙ rw (e, z) (ap (set (slots d.row) i) (new d.row i b fits h)))
        ],
        q,
      )

  -- the slots after a write that is told as Struck tells it
  struck_row : (d d' : Row) (i m : ℕ) (b : Slot) → length b ≡ slot_size → m ≤ slot_size → i < length (slots d.row) → d'.row ≡ paste d.row (i * slot_size) b m → slots d'.row ≡ set (slots d.row) i (torn m (get_or (slots d.row) i []) b)
  struck_row d d' i m b fits low h e =
      let count : i < many (length d.row) = omega (arith, h, rows.many slot_size (many (length d.row)) d.row) in
      let fit : many (length d.row) * slot_size ≤ length d.row = room (length d.row) in
      let long : length (take m b) ≡ m = length-take-le m b (omega arith) in
      let part : paste d.row (i * slot_size) (take m b) (length (take m b)) ≡ paste d.row (i * slot_size) b m = rw (long, take-take m m b (omega arith)) refl in
      let row : d'.row ≡ paste d.row (i * slot_size) (take m b) (length (take m b)) = e ∙ sym part in
      let same : length d'.row ≡ length d.row = ap length row ∙ search (rules, places) in
      rw (same, row) (rows.pasted slot_size (many (length d.row)) d.row fit i m b count low fits)

  -- a device that writes just as Struck says: its slots tear at most, whatever its cuts leave,
  pub struck_tears : (stand : ℕ → ℕ) → ((m : ℕ) → stand m ≤ slot_size) → (d : Row) (i : ℕ) (b : Slot) (r : Answer) (d' : Row) → length b ≡ slot_size → Struck stand slots d i b r d' → Tearing (state_by slots d) i b r (state_by slots d')
  struck_tears stand low d i b (Ok _) d' fits s = (s.0, s.1, struck_row d d' i slot_size b fits (omega arith) s.0 s.3 ∙ ap (set (slots d.row) i) (new d.row i b fits s.0), s.4)
  struck_tears stand low d i b (Err e) d' fits (inl s) = inl (s.0, ap (state_by slots) s.1)
  struck_tears stand low d i b (Err e) d' fits (inr s) =
      inr (s.0, s.1, s.2, (stand s.3.0, low s.3.0, struck_row d d' i (stand s.3.0) b fits (low s.3.0) s.1 s.3.2), s.4)

  -- and are whole, where a cut leaves none or all of the bytes
  pub struck_wholes : (stand : ℕ → ℕ) → ((m : ℕ) → (stand m ≡ 0) ⊎ (stand m ≡ slot_size)) → (d : Row) (i : ℕ) (b : Slot) (r : Answer) (d' : Row) → length b ≡ slot_size → Struck stand slots d i b r d' → Writing (state_by slots d) i b r (state_by slots d')
  struck_wholes stand either d i b (Ok _) d' fits s = (s.0, s.1, struck_row d d' i slot_size b fits (omega arith) s.0 s.3 ∙ ap (set (slots d.row) i) (new d.row i b fits s.0), s.4)
  struck_wholes stand either d i b (Err e) d' fits (inl s) = inl (s.0, ap (state_by slots) s.1)
  struck_wholes stand either d i b (Err e) d' fits (inr s) =
      let m : ℕ = s.3.0 in
      let left = struck_row d d' i (stand m) b fits (grind (arith, either m)) s.1 s.3.2 in
      inr (
        s.0,
        s.1,
        s.2,
        elim (either m) [
          | inl z ↦ inl (left ∙ rw z (set-get_or (slots d.row) i []))
          | inr z ↦ inr (left ∙ rw z (ap (set (slots d.row) i) (new d.row i b fits s.1)))
        ],
        s.4,
      )
