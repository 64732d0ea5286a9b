use Rattle.std.proofs.Common.{arith}
use Rattle.looking.proofs.Free.{few_records}
use Rattle.looking.proofs.look_on.Goals as goal

pub overflow_sub-result-2 : goal.overflow_sub-result-2
overflow_sub-result-2 g c =
    let e = c.in_ok-survey.ensures.is in
    let n = c.count.ensures in
    let few = few_records _ _ _ _ _ e in
    omega arith
