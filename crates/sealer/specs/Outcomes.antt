-- What sealing and opening answer, and what their buffer then holds. `sealing` is what a sealer means at one key and heading.
use Rattle.std.specs.Prelude.{◌≡◌, ℕ, ◌+◌, ◌<◌, ◌≤◌, List, length, Some, None, Ok, Err, Option, Result}
use Rattle.octets.specs.Buffers.{zeros, filled}
use Rattle.refusal.specs.declared.Refusal.{Refusal}
use Rattle.refusal.specs.declared.Refusal.TheVariants.{ShortBuffer}
use Rattle.sealer.specs.Limits.{max_plain}

-- a plain can be sealed into a buffer of so many bytes: the plain is not too long, and its sealing has room
abbrev pub Sealable : ℕ → List ℕ → ℕ → Type 0
Sealable overhead plain room = (length plain ≤ max_plain) × (length plain + overhead ≤ room)

-- a plain was sealed into a buffer of so many bytes, or declined
abbrev pub Sealed : (List ℕ → List ℕ) → ℕ → List ℕ → ℕ → Result ℕ Refusal → List ℕ → Type 0
Sealed sealing overhead plain room (Ok n) out =
    Sealable overhead plain room × (n ≡ length plain + overhead) × (out ≡ filled (sealing plain) room)
Sealed sealing overhead plain room (Err e) out =
    (Sealable overhead plain room → ⊥) × (e ≡ ShortBuffer) × (out ≡ zeros room)

-- the plain of a sealing
pub record PlainOf (sealing : List ℕ → List ℕ) (sealed plain : List ℕ) : Type 0 where
  pub short : length plain ≤ max_plain
  pub seals : sealing plain ≡ sealed

-- no plain has the sealing
abbrev pub NoPlain : (List ℕ → List ℕ) → List ℕ → Type 0
NoPlain sealing sealed = (plain : List ℕ) → PlainOf sealing sealed plain → ⊥

-- sealed bytes were opened into a buffer of so many bytes, were no sealing, or were declined
abbrev pub Opened : (List ℕ → List ℕ) → List ℕ → ℕ → Result (Option ℕ) Refusal → List ℕ → Type 0
Opened sealing sealed room (Ok (Some n)) out =
    (max_plain ≤ room) × ((plain : List ℕ) × (PlainOf sealing sealed plain × (n ≡ length plain) × (out ≡ filled plain room)))
Opened sealing sealed room (Ok None) out = (max_plain ≤ room) × NoPlain sealing sealed × (out ≡ zeros room)
Opened sealing sealed room (Err e) out = (room < max_plain) × (e ≡ ShortBuffer) × (out ≡ zeros room)
