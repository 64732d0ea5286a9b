use Rattle.std.proofs.Common.{◌≡◌, ◌++◌, take, drop}
use Rattle.hmac.specs.Mac.{masked}
use Rattle.hmac.proofs.mask.Given as goal

-- the bytes so far are masked, and the others as they were
abbrev pub invariant-loop-x : goal.invariant-loop-x
invariant-loop-x l = l.pad ≡ masked l.b (take l.x-index l.initial.pad) ++ drop l.x-index l.initial.pad
