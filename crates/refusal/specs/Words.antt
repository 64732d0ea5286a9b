-- The words that stand for each refusal where it is printed.
use Rattle.std.specs.Prelude.{ℕ, List, codes}
use Rattle.refusal.specs.declared.Refusal.{Refusal}
use Rattle.refusal.specs.declared.Refusal.TheVariants.{ShortBuffer, SlotCount, NotARecord, BadHead, BadLink, Uncovered, Exhausted, TicketLength, OtherName, NotIssued, Spent, SealBroken, OpenedNotARecord, NoFreeSlot, NoPower, NoSuchSlot}

abbrev pub words_of : Refusal → List ℕ
words_of ShortBuffer = codes "too short a buffer or too long a plain"
words_of SlotCount = codes "too few or too many slots"
words_of NotARecord = codes "no state record"
words_of BadHead = codes "a head that does not fit"
words_of BadLink = codes "a record that does not fit"
words_of Uncovered = codes "an unissued number under no record"
words_of Exhausted = codes "every number is issued"
words_of TicketLength = codes "a ticket too short or too long"
words_of OtherName = codes "another key name"
words_of NotIssued = codes "not issued"
words_of Spent = codes "spent"
words_of SealBroken = codes "the seal does not open"
words_of OpenedNotARecord = codes "no state record under the seal"
words_of NoFreeSlot = codes "too few free slots"
words_of NoPower = codes "no power"
words_of NoSuchSlot = codes "no such slot"
