-- What making does, as one word.
use Rattle.std.specs.Prelude.{ℕ, Bool, List, Result}
use Rattle.device.specs.Effects.{State}
use Rattle.fault.specs.declared.Halt.{Halt}
use Rattle.calls.specs.Kits.{Kit}
use Rattle.calls.specs.Calls.{Making}

-- `Making`, whether or not the head's write stands. The check does not open it, so it finds lemmas about making by it.
unfoldable pub Makes : Kit → ℕ → State → List ℕ → List ℕ → Result (Unit {0}) Halt → State → Type 0
Makes k d s root name r t = (headed : Bool) × Making k d s root name r t headed
