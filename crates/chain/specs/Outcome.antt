-- What reading a file comes to, for every content of the slots, on or off power: which refusal, or which head and chain.
use Rattle.std.specs.Prelude.{ℕ, cond, List, [], length, Some, None, Ok, Err, Option, Result, nat_lt, slice_index_or}
use Rattle.refusal.specs.declared.Refusal.TheVariants.{ShortBuffer, BadHead, BadLink, NoSuchSlot}
use Rattle.fault.specs.declared.Halt.{Halt}
use Rattle.fault.specs.declared.Step.TheVariants.{Read}
use Rattle.fault.specs.Faults.{plainly, placed, unpowered}
use Rattle.octets.specs.Buffers.{zeros}
use Rattle.device.specs.Effects.{State}
use Rattle.layout.specs.declared.Head.{Head}
use Rattle.layout.specs.declared.NodeFields.{NodeFields}
use Rattle.layout.specs.declared.Numbers.{Numbers}
use Rattle.layout.specs.Records.{head_of, node_of}
use Rattle.marks.specs.Rows.{room_of}
use Rattle.chain.specs.declared.Survey.{Survey}
use Rattle.chain.specs.Reading.{Sound, bears, file_of}
use Rattle.chain.specs.Listing.{find_in, marked_all}

-- the file, where the power is on
abbrev pub file_read : ℕ → Numbers → State → Result Sound Halt
file_read d numbers s = cond s.power (file_of d numbers s.slots) (Err (unpowered 0 Read))

-- by a server with these numbers, lent a row of `room` bytes for the marks: the row first, then whether slot 0 can be
-- read, then what the file is. Reading never fails while the power is on.
abbrev pub reading_of : ℕ → Numbers → ℕ → State → Result Sound Halt
reading_of d numbers room s =
    cond (nat_lt room (room_of (length s.slots))) (Err (plainly ShortBuffer))
    (cond (nat_lt 0 (length s.slots)) (file_read d numbers s) (Err (placed NoSuchSlot 0)))

-- the number asked for: the one given, or else the next to be issued
abbrev pub asked_of : Option ℕ → Head → ℕ
asked_of None h = h.issued
asked_of (Some n) h = n

-- the answer: the head, the chain's length, and the record that covers the number asked for
abbrev pub answer_of : ℕ → Option ℕ → Result Sound Halt → Result Survey Halt
answer_of d n (Ok f) = Ok (record { head = f.0; length = length f.1; found = find_in d (asked_of n f.0) 0 f.1 })
answer_of d n (Err h) = Err h

-- the row of marks afterwards, where the marks stay: the slots of the chain, and none where reading is declined
abbrev pub marks_of : ℕ → Result Sound Halt → List ℕ
marks_of m (Ok f) = marked_all (zeros m) f.1
marks_of m (Err h) = zeros m

-- ---- the steps
abbrev pub head_named : Numbers → Option Head → Result Head Halt
head_named numbers None = Err (plainly BadHead)
head_named numbers (Some h) = cond (bears h numbers) (Ok h) (Err (plainly BadHead))

abbrev pub head_read : ℕ → Numbers → State → Result Head Halt
head_read d numbers s =
    cond (nat_lt 0 (length s.slots)) (cond s.power (head_named numbers (head_of d (slice_index_or s.slots 0 []))) (Err (unpowered 0 Read))) (Err (placed NoSuchSlot 0))

abbrev pub record_named : ℕ → Option NodeFields → Result NodeFields Halt
record_named i None = Err (placed BadLink i)
record_named i (Some x) = Ok x

abbrev pub record_read : ℕ → State → ℕ → Result NodeFields Halt
record_read d s i =
    cond (nat_lt i (length s.slots)) (cond s.power (record_named i (node_of d (slice_index_or s.slots i []))) (Err (unpowered i Read))) (Err (placed NoSuchSlot i))
