-- When two states of a device are one.
use Rattle.std.proofs.Common.{◌≡◌, ap, ◌∙◌}
use Rattle.device.specs.Effects.{State}

-- the same slots and the same power
pub same_state : {s t : State} → t.slots ≡ s.slots → t.power ≡ s.power → t ≡ s
same_state {s} {t} p q = ap (λ x. record t { slots = x }) p ∙ ap (λ x. record s { power = x }) q
