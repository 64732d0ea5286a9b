-- The number of each refusal. Every promise that speaks of a refusal's number speaks of this one.
use Rattle.std.specs.Prelude.{ℕ}
use Rattle.refusal.specs.declared.Refusal.{Refusal}
use Rattle.refusal.specs.declared.Refusal.TheVariants.{ShortBuffer, SlotCount, NotARecord, BadHead, BadLink, Uncovered, Exhausted, TicketLength, OtherName, NotIssued, Spent, SealBroken, OpenedNotARecord, NoFreeSlot, NoPower, NoSuchSlot}

abbrev pub number_of : Refusal → ℕ
number_of ShortBuffer = 1
number_of SlotCount = 2
number_of NotARecord = 3
number_of BadHead = 4
number_of BadLink = 5
number_of Uncovered = 6
number_of Exhausted = 7
number_of TicketLength = 8
number_of OtherName = 9
number_of NotIssued = 10
number_of Spent = 11
number_of SealBroken = 12
number_of OpenedNotARecord = 13
number_of NoFreeSlot = 14
number_of NoPower = 15
number_of NoSuchSlot = 16
