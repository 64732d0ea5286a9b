-- What a fault carries.
use Rattle.std.specs.Prelude.{ℕ, Some, None}
use Rattle.refusal.specs.declared.Refusal.{Refusal}
use Rattle.refusal.specs.declared.Refusal.TheVariants.{ShortBuffer, SlotCount, NotARecord, BadHead, BadLink, Uncovered, Exhausted, TicketLength, OtherName, NotIssued, Spent, SealBroken, OpenedNotARecord, NoFreeSlot, NoPower, NoSuchSlot}
use Rattle.fault.specs.declared.Call.{Call}
use Rattle.fault.specs.declared.Layer.{Layer}
use Rattle.fault.specs.declared.Layer.TheVariants.{Server, Chain, Device}
use Rattle.fault.specs.declared.Step.{Step}
use Rattle.fault.specs.declared.Halt.{Halt}
use Rattle.fault.specs.declared.Fault.{Fault}

-- the chain finds fault with a file, the device with its power and its slots, the server with all else
abbrev pub layer_of : Refusal → Layer
layer_of ShortBuffer = Server
layer_of SlotCount = Server
layer_of NotARecord = Server
layer_of BadHead = Chain
layer_of BadLink = Chain
layer_of Uncovered = Chain
layer_of Exhausted = Server
layer_of TicketLength = Server
layer_of OtherName = Server
layer_of NotIssued = Server
layer_of Spent = Server
layer_of SealBroken = Server
layer_of OpenedNotARecord = Server
layer_of NoFreeSlot = Server
layer_of NoPower = Device
layer_of NoSuchSlot = Device

-- a refusal with no place, with a slot or a number, and for want of power at a slot in a step
abbrev pub plainly : Refusal → Halt
plainly w = record { refusal = w; place = 0; step = None }

abbrev pub placed : Refusal → ℕ → Halt
placed w n = record { refusal = w; place = n; step = None }

abbrev pub unpowered : ℕ → Step → Halt
unpowered i a = record { refusal = NoPower; place = i; step = Some a }

-- what stopped a call, with the call and the layer
abbrev pub fault_of : Call → Halt → Fault
fault_of c h = record { refusal = h.refusal; call = c; layer = layer_of h.refusal; place = h.place; step = h.step }
