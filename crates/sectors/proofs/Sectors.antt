-- A slot that is changed within its sector, and the sector put back whole.
use Rattle.std.proofs.Common.{◌≡◌, ℕ, ◌+◌, ◌*◌, ◌/◌, ◌%◌, ◌<◌, ◌≤◌, List, Option, length, take, drop, Ok, refl, sym, ap, ◌∙◌, div-mul-le_self, arith, rules}
use lib.Seq.{paste}
use borrow.Rule.Slice.PartMut.{put_mid}
use Rattle.std.proofs.lemmas.List.{places, same_lists}
use Rattle.std.proofs.lemmas.Slice.{put_mid-paste}
use Rattle.device.specs.Effects.{Slot, Tearing, slot_size}
use Rattle.row.specs.Rows.{Row, state_by, placed}
use Rattle.row.specs.Appointed.{answer_of, Counting, partly, standing_in}
use Rattle.row.proofs.Meanings.{tears}
use Rattle.sectors.specs.Sectors.{sector_size, sector_slots, slots_by_sector}

room : (l : ℕ) → l / sector_size * sector_slots * slot_size ≤ l
room l = omega (arith, div-mul-le_self l sector_size)

-- the sector of w bytes from s on, with m bytes of b pasted into it, put back in its place: those bytes pasted into the row
within : (w s at m : ℕ) (row b : List ℕ) → at + m ≤ w → s + w ≤ length row → m ≤ length b → paste row s (paste (take w (drop s row)) at b m) w ≡ paste row (s + at) b m
within w s at m row b h f l = same_lists _ _ (search (rules, places)) (λ k d g. grind (arith, places))

-- a sector that is read, changed in one slot and put back: that slot's bytes are in place
pub stored : (d d' : Row) (i k w : ℕ) (b x old : List ℕ) → d' ≡ placed (i / sector_slots * sector_slots) (put_mid (i % sector_slots * slot_size) k old x) d → x ≡ b → old ≡ take w (drop (i / sector_slots * sector_slots * slot_size) d.row) → w ≡ sector_size → k ≡ length b → i < length d.row / sector_size * sector_slots → length b ≤ slot_size → d' ≡ placed i b d
stored d d' i k w b x old p q o e f h l =
    let s : ℕ = i / sector_slots * sector_slots * slot_size in
    let at : ℕ = i % sector_slots * slot_size in
    let new : List ℕ = put_mid at k old x in
    let fits : s + sector_size ≤ length d.row = omega arith in
    let changed : new ≡ paste (take sector_size (drop s d.row)) at b (length b) = put_mid-paste at k old x b (length b) q (sym f) refl ∙ rw (o, e) refl in
    let longer : length new ≡ sector_size = ap length changed ∙ search (rules, places) in
    let row : paste d.row s new (length new) ≡ paste d.row (i * slot_size) b (length b) =
    ap (paste d.row s new) longer
    ∙ ap (λ y. paste d.row s y sector_size) changed
    ∙ within sector_size s at (length b) d.row b (omega arith) fits (omega arith)
    ∙ ap (λ y. paste d.row y b (length b)) (omega arith) in
    p ∙ ap (λ y. record d { row = y }) row

pub writes : (d : Row) (i : ℕ) (b : Slot) (n k : ℕ) (o : Option ℕ) (u d' : Row) → Counting n d i (Ok o) u → d' ≡ placed i (take k b) u → n ≡ length (slots_by_sector d.row) → k ≡ standing_in partly o → length b ≡ slot_size → Tearing (state_by slots_by_sector d) i b (answer_of o) (state_by slots_by_sector d')
writes = tears (λ l. l / sector_size * sector_slots) room
