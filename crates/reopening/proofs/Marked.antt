-- A row in which the slots of a chain are marked has marks at these slots and no others.
use Rattle.std.proofs.Common.{◌≡◌, ℕ, ◌<◌, ◌≤◌, List, length, arith}
use Rattle.std.proofs.lemmas.List.{length-replicate}
use Rattle.std.proofs.lemmas.Bool.{cases_Bool, both_ways}
use Rattle.octets.specs.Buffers.{zeros}
use Rattle.marks.specs.Rows.{room_of, is_marked}
use Rattle.marks.proofs.Laws.{mark_laws}
use Rattle.chain.specs.Reading.{Link, slots_of}
use Rattle.chain.specs.Listing.{marked_all}
use Rattle.chain.proofs.Frees.{marked_in, unmarked_off}
use Rattle.calls.specs.Files.{holds}
use Rattle.calls.proofs.Held.{holds_in, in_holds}

pub marked_is : (n i : ℕ) → i < n → (row : List ℕ) (xs : List Link) → row ≡ marked_all (zeros (length row)) xs → room_of n ≤ length row → is_marked row i ≡ holds (slots_of xs) i
marked_is n i lt row xs e long = grind (arith, length-replicate, marked_in, holds_in, unmarked_off, both_ways, in_holds, mark_laws, cases_Bool)
