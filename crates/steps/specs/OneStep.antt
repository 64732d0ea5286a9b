-- One step of a call on a device: what it answers, and what the device's state and the lent slot then are.
use Rattle.std.specs.Prelude.{◌≡◌, ℕ, ◌<◌, ◌≤◌, true, false, ◌⊎◌, [], length, Ok, Err, Result, slice_index_or, slice_set}
use Rattle.refusal.specs.declared.Refusal.TheVariants as refusals
use Rattle.device.specs.declared.DeviceFault.{DeviceFault}
use Rattle.device.specs.declared.DeviceFault.TheVariants.{NoSuchSlot, NoPower}
use Rattle.device.specs.Effects.{Slot, State, blank}
use Rattle.fault.specs.declared.Step.{Step}
use Rattle.fault.specs.declared.Step.TheVariants.{Read, Restart}
use Rattle.fault.specs.declared.Halt.{Halt}
use Rattle.fault.specs.Faults.{placed, unpowered}

-- a device with n slots and its power on
abbrev pub Powered : State → ℕ → Type 0
Powered s n = (length s.slots ≡ n) × (s.power ≡ true)

-- what a device's fault stops a call with, at a slot in a step
abbrev pub halt_of : DeviceFault → ℕ → Step → Halt
halt_of NoSuchSlot i a = placed refusals.NoSuchSlot i
halt_of NoPower i a = unpowered i a

-- a step at slot i is declined before anything is done: there is no such slot, or else the power is off
abbrev pub Unbegun : State → ℕ → Step → Halt → Type 0
Unbegun s i a h = ((length s.slots ≤ i) × (h ≡ placed refusals.NoSuchSlot i)) ⊎ ((i < length s.slots) × (s.power ≡ false) × (h ≡ unpowered i a))

-- a read: the slot's bytes; or declined, and zeros
abbrev pub Fetched : State → ℕ → Result (Unit {0}) Halt → Slot → Type 0
Fetched s i (Ok _) out = (i < length s.slots) × (s.power ≡ true) × (out ≡ slice_index_or s.slots i [])
Fetched s i (Err h) out = Unbegun s i Read h × (out ≡ blank)

pub record Write : Type 0 where
  pub slot : ℕ
  pub bytes : Slot
  pub step : Step

abbrev pub write_of : ℕ → Slot → Step → Write
write_of i b a = record { slot = i; bytes = b; step = a }

-- one write: done; or declined, and all is as it was; or cut, when it stands or not and the power is off
abbrev pub Stepped : State → Write → Result (Unit {0}) Halt → State → Type 0
Stepped s w (Ok _) t = (w.slot < length s.slots) × (s.power ≡ true) × (t.slots ≡ slice_set s.slots w.slot w.bytes) × (t.power ≡ true)
Stepped s w (Err h) t =
    (Unbegun s w.slot w.step h × (t ≡ s))
    ⊎ ((w.slot < length s.slots) × (s.power ≡ true) × (h ≡ unpowered w.slot w.step) × ((t.slots ≡ s.slots) ⊎ (t.slots ≡ slice_set s.slots w.slot w.bytes)) × (t.power ≡ false))

-- a restart as the first step of a call, whether the power was on or off: done, or cut; the slots stay
abbrev pub Restarted : State → Result (Unit {0}) Halt → State → Type 0
Restarted s (Ok _) t = (t.slots ≡ s.slots) × (t.power ≡ true)
Restarted s (Err h) t = (h ≡ unpowered 0 Restart) × (t.slots ≡ s.slots) × (t.power ≡ false)
