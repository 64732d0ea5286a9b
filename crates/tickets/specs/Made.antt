-- What a key worked out apart from a server is, and a ticket sealed under a key.
use Rattle.std.specs.Prelude.{◌≡◌, ℕ, ◌+◌, ◌-◌, List, ◌++◌, length, Option, Some, None, Result, Ok, Err}
use Rattle.octets.specs.Buffers.{zeros, filled}
use Rattle.refusal.specs.declared.Refusal.{Refusal}
use Rattle.refusal.specs.declared.Refusal.TheVariants.{ShortBuffer}
use Rattle.tree.specs.declared.Node.{Node}
use Rattle.tree.specs.Values.{Expansion}
use Rattle.generator.specs.Bytes.{value_length}
use Rattle.generator.specs.Descent.{Descent}
use Rattle.ticket.specs.Limits.{heading_length}
use Rattle.sealer.specs.Outcomes.{Sealable}
use Rattle.samples.specs.declared.Bytes.{Bytes}

-- the bytes that a row of 160 has for what is sealed
abbrev pub sealed_room : ℕ
sealed_room = 160 - heading_length

-- the key of a number with the generator calls made, from a node with its value; none where the node does not cover the number
abbrev pub KeyFrom : Expansion → ℕ → Node → List ℕ → ℕ → Option (List ℕ × ℕ) → Type 0
KeyFrom g d x v n (Some (key, calls)) = Descent g d x n v (Some calls) key
KeyFrom g d x v n None = Descent g d x n v None (zeros value_length)

-- the heading, then the plain as it is sealed under key and heading; declined where the plain is too long
abbrev pub TicketOf : (List ℕ → List ℕ) → ℕ → List ℕ → List ℕ → Result Bytes Refusal → Type 0
TicketOf sealing overhead heading plain (Ok t) =
    Sealable overhead plain sealed_room × (t.length ≡ heading_length + (length plain + overhead)) × (t.row ≡ heading ++ filled (sealing plain) sealed_room)
TicketOf sealing overhead heading plain (Err e) = (Sealable overhead plain sealed_room → ⊥) × (e ≡ ShortBuffer)
