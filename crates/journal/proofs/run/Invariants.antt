use Rattle.std.proofs.Common.{◌≡◌, true, take, map}
use Rattle.journal.specs.Writes.{write_of, stood}
use Rattle.journal.proofs.run.Given as goal

abbrev pub invariant-loop-slot : goal.invariant-loop-slot
invariant-loop-slot g l = record {
  slots : (g.D.ReadSlots.state l.d).slots ≡ stood (g.D.ReadSlots.state l.fn.d).slots (map (λ w. write_of w.0 w.1.now) (take l.slot-index l.writes));
  on : (g.D.ReadSlots.state l.d).power ≡ true;
}
