-- What a slot holds, where the device has it and its power is on.
use Rattle.std.specs.Prelude.{ℕ, cond, List, [], length, Option, Some, None, nat_lt, slice_index_or}
use Rattle.device.specs.Effects.{State}

abbrev pub slot_in : State → ℕ → Option (List ℕ)
slot_in s i = cond (nat_lt i (length s.slots)) (cond s.power (Some (slice_index_or s.slots i [])) None) None
