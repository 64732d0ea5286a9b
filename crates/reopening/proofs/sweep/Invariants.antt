use Rattle.std.proofs.Common.{◌≡◌, ◌≤◌, true, List, length, Ok}
use Rattle.octets.specs.Buffers.{zeros}
use Rattle.marks.specs.Rows.{room_of}
use Rattle.chain.specs.Reading.{Link}
use Rattle.chain.specs.Listing.{marked_all}
use Rattle.steps.specs.Writes.{Wrote}
use Rattle.reopening.proofs.Swept.{sofar}
use Rattle.reopening.proofs.sweep.Given as goal

-- the slots before i are swept
abbrev pub invariant-loop-i : goal.invariant-loop-i
invariant-loop-i g l =
    ((g.D.ReadSlots.state l.device).power ≡ true) × (length (g.D.ReadSlots.state l.device).slots ≡ length (g.D.ReadSlots.state l.initial.device).slots)
    × ((xs : List Link) → l.marks ≡ marked_all (zeros (length l.marks)) xs → room_of l.count ≤ length l.marks →
    Wrote (g.D.ReadSlots.state l.initial.device).slots (sofar (g.D.ReadSlots.state l.initial.device).slots xs l.i) (Ok tt) (g.D.ReadSlots.state l.device))
