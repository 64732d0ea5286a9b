-- A server's answers taken apart.
use Rattle.std.specs.Prelude.{ℕ, Option, Some, None, Result, Ok, Err}
use Rattle.fault.specs.declared.Fault.{Fault}
use Rattle.server.specs.declared.Cold.{Cold}
use Rattle.server.specs.declared.Running.{Running}
use Rattle.server.specs.declared.Answered.{Answered}
use Rattle.server.specs.declared.Answered.TheVariants.{Done, Refused, Cut}

module _ {D G S : Type 0} where
  -- the server, and the two numbers or the fault
  abbrev pub parts_of : Answered D G S → Result (Running D G S) (Cold D G S) × Result (ℕ × ℕ) Fault
  parts_of (Done m a) = (Ok m, Ok a)
  parts_of (Refused m f) = (Ok m, Err f)
  parts_of (Cut m f) = (Err m, Err f)

  -- the server, and the fault where there is one
  abbrev pub opening_of : Result (Running D G S) (Cold D G S × Fault) → Result (Running D G S) (Cold D G S) × Option Fault
  opening_of (Ok m) = (Ok m, None)
  opening_of (Err (m, f)) = (Err m, Some f)

  -- the server's device
  abbrev pub device_in : Result (Running D G S) (Cold D G S) → D
  device_in (Ok m) = m.device
  device_in (Err m) = m.device
