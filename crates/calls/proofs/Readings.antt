-- What a call knows once nothing stopped it at its beginning, and what reading the file then tells it.
use Rattle.std.proofs.Common.{◌≡◌, ℕ, ◌<◌, ◌≤◌, true, List, length, Ok, Err, Option, Result, refl, arith}
use Rattle.octets.specs.Buffers.{zeros}
use Rattle.device.specs.Effects.{Slots, State}
use Rattle.fault.specs.declared.Halt.{Halt}
use Rattle.layout.specs.declared.Numbers.{Numbers}
use Rattle.marks.specs.Rows.{room_of}
use Rattle.chain.specs.declared.Survey.{Survey}
use Rattle.chain.specs.Reading.{Link, Sound, file_of}
use Rattle.chain.specs.Listing.{find_in, marked_all}
use Rattle.chain.specs.Outcome.{file_read, reading_of, asked_of, answer_of, marks_of}
use Rattle.calls.specs.Calls.{entry_verdict}

-- ---- the beginning
-- the buffer and the marks are long enough, and there are slots
pub record Entered (s : Slots) (least room marks : ℕ) : Type 0 where
  pub large : least ≤ room
  pub wide : room_of (length s) ≤ marks
  pub some : 0 < length s

pub entered_by : (d : ℕ) {s : Slots} {least room marks : ℕ} → entry_verdict d s least room marks ≡ Ok tt → Entered s least room marks
entered_by d e = grind arith

-- ---- the file
-- a file that was read: its chain, what is told of it, and the row of marks
pub record Told (d : ℕ) (numbers : Numbers) (s : State) (n : Option ℕ) (m : ℕ) (v : Survey) (row : List ℕ) : Type 0 where
  pub links : List Link
  pub power : s.power ≡ true
  pub file : file_of d numbers s.slots ≡ Ok (v.head, links)
  pub read : file_read d numbers s ≡ Ok (v.head, links)
  pub many : v.length ≡ length links
  pub finds : v.found ≡ find_in d (asked_of n v.head) 0 links
  pub marked : row ≡ marked_all (zeros m) links

answer_err : (d : ℕ) (n : Option ℕ) (r : Result Sound Halt) (h : Halt) → Err h ≡ answer_of d n r → r ≡ Err h
answer_err d n (Err g) h e = cc
answer_err d n (Ok f) h e = absurd (cc)

is_on : (d : ℕ) (numbers : Numbers) (s : State) (f : Sound) → file_read d numbers s ≡ Ok f → (s.power ≡ true) × (file_of d numbers s.slots ≡ Ok f)
is_on d numbers s f e = grind arith

told_by : (d : ℕ) (numbers : Numbers) (s : State) (n : Option ℕ) (m : ℕ) (v : Survey) (row : List ℕ) (r : Result Sound Halt) → file_read d numbers s ≡ r → Ok v ≡ answer_of d n r → row ≡ marks_of m r → Told d numbers s n m v row
told_by d numbers s n m v row (Err h) r e q = absurd (cc)
told_by d numbers s n m v row (Ok f) r e q =
    let w : v ≡ record { head = f.0; length = length f.1; found = find_in d (asked_of n f.0) 0 f.1 } = cc in
    let p = is_on d numbers s f r in
    rw w (record { links = f.1; power = p.0; file = p.1; read = r; many = refl; finds = refl; marked = q })

module _ (d : ℕ) (numbers : Numbers) (s : State) {marks : ℕ} (wide : room_of (length s.slots) ≤ marks) (some : 0 < length s.slots) (n : Option ℕ) where
  -- with marks for all slots, of which there are some
  reading_is : reading_of d numbers marks s ≡ file_read d numbers s
  reading_is = grind arith

  pub read_err : {h : Halt} → Err h ≡ answer_of d n (reading_of d numbers marks s) → file_read d numbers s ≡ Err h
  read_err {h = h} e = answer_err d n (file_read d numbers s) h (rw reading_is at e)

  pub read_ok : {v : Survey} {row : List ℕ} → Ok v ≡ answer_of d n (reading_of d numbers marks s) → row ≡ marks_of marks (reading_of d numbers marks s) → Told d numbers s n marks v row
  read_ok {v = v} {row = row} e q = told_by d numbers s n marks v row (file_read d numbers s) refl (rw reading_is at e) (rw reading_is at q)
