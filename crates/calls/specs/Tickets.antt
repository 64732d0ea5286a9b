-- Tickets: a heading, and a state's record sealed under the number's key.
use Rattle.std.specs.Prelude.{ℕ, List, ◌++◌}
use Rattle.ticket.specs.Parts.{heading_of}
use Rattle.calls.specs.Kits.{Kit}

abbrev pub ticket_of : Kit → List ℕ → ℕ → List ℕ → List ℕ → List ℕ
ticket_of k name n key plain = heading_of name n ++ k.sealer.sealing key (heading_of name n) plain
