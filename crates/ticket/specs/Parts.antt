-- A ticket's heading, and the parts of a ticket.
use Rattle.std.specs.Prelude.{ℕ, List, ◌++◌, take, drop}
use Rattle.octets.specs.Fields.{bytes_of, number_of}
use Rattle.ticket.specs.Limits.{name_length, heading_length}

-- the key's name, then the ticket's number in four bytes
abbrev pub heading_of : List ℕ → ℕ → List ℕ
heading_of name n = name ++ bytes_of 4 n

-- the parts of a ticket
abbrev pub name_in : List ℕ → List ℕ
name_in ticket = take name_length ticket

abbrev pub number_in : List ℕ → ℕ
number_in ticket = number_of (take 4 (drop name_length ticket))

abbrev pub heading_in : List ℕ → List ℕ
heading_in ticket = take heading_length ticket

abbrev pub sealed_in : List ℕ → List ℕ
sealed_in ticket = drop heading_length ticket
