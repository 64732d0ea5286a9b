use Rattle.std.proofs.Common.{◌≡◌, suc, ◌-◌, ◌^◌, length, None}
use Rattle.chain.specs.Reading.{walk}
use Rattle.chain.specs.Listing.{tally_of, none_yet, row_of}
use Rattle.chain.proofs.Going.{Going}
use Rattle.chain.proofs.walk_along.Given as goal

abbrev pub invariant-loop-next : goal.invariant-loop-next
invariant-loop-next g l =
    Going 16 (g.D.ReadSlots.state l.device).slots l.wanted
    (tally_of 16 l.wanted (none_yet l.head.issued) 0 (walk 16 (suc (2 ^ 16)) (g.D.ReadSlots.state l.device).slots 0 None 0 l.head.first))
    (row_of l.initial.marks (walk 16 (suc (2 ^ 16)) (g.D.ReadSlots.state l.device).slots 0 None 0 l.head.first))
    l.from l.before l.last l.next l.tally l.marks
    × (length l.slot ≡ 64)

abbrev pub decreases-loop-next : goal.decreases-loop-next
decreases-loop-next g l = 2 ^ 16 - l.from
