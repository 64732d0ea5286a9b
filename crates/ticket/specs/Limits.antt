-- How long a ticket and its parts are.
use Rattle.std.specs.Prelude.{ℕ, ◌+◌, Bool, ◌&&◌, nat_le}
use Rattle.session.specs.Limits.{min_record, max_record}

-- the bytes of a key's name
abbrev pub name_length : ℕ
name_length = 16

-- the bytes of a heading: a key's name and a ticket's number
abbrev pub heading_length : ℕ
heading_length = name_length + 4

-- the most bytes that a sealing has beyond its plain
abbrev pub max_overhead : ℕ
max_overhead = 32

-- the shortest and the longest ticket of a sealer with this overhead, and the longest of all sealers
abbrev pub ticket_least : ℕ → ℕ
ticket_least overhead = heading_length + min_record + overhead

abbrev pub ticket_longest : ℕ → ℕ
ticket_longest overhead = heading_length + max_record + overhead

abbrev pub max_ticket : ℕ
max_ticket = ticket_longest max_overhead

-- a ticket of so many bytes can be one of a sealer with this overhead
abbrev pub ticket_fits : ℕ → ℕ → Bool
ticket_fits overhead n = nat_le (ticket_least overhead) n && nat_le n (ticket_longest overhead)
