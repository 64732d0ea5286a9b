-- A heading from its parts.
use Rattle.std.proofs.Common.{◌≡◌, ℕ, List, [], ◌++◌, length, drop, ◌∙◌, arith}
use Rattle.std.proofs.Math.Seq.{paste}
use Rattle.std.proofs.lemmas.List.{drop_all, append-nil}
use Rattle.octets.specs.Fields.{bytes_of}
use Rattle.octets.proofs.Fielded.{paste_at, length_bytes}
use Rattle.ticket.specs.Limits.{name_length}

pub number_after_name : (name rest : List ℕ) (n : ℕ) → length name ≡ name_length → length rest ≡ 4 → paste (name ++ rest) name_length (bytes_of 4 n) 4 ≡ name ++ bytes_of 4 n
number_after_name name rest n long four =
    let none : drop 4 rest ≡ [] = drop_all 4 rest (omega (arith, four)) in
    paste_at name rest (bytes_of 4 n) name_length 4 long (length_bytes 4 n) ∙ rw (none, append-nil)
