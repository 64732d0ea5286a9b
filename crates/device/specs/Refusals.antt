-- The refusal that a device's fault is.
use Rattle.device.specs.declared.DeviceFault.{DeviceFault}
use Rattle.device.specs.declared.DeviceFault.TheVariants.{NoSuchSlot, NoPower}
use Rattle.refusal.specs.declared.Refusal.{Refusal}
use Rattle.refusal.specs.declared.Refusal.TheVariants as refusals

abbrev pub refusal_of : DeviceFault → Refusal
refusal_of NoSuchSlot = refusals.NoSuchSlot
refusal_of NoPower = refusals.NoPower
