use Rattle.std.proofs.Common.{arith}
use Rattle.session.specs.Records.{written_of, buffer_of}
use Rattle.samples.proofs.fitting_record.Goals as goal

pub returns-in_err-length-clause-is : goal.returns-in_err-length-clause-is
unfolding written_of
returns-in_err-length-clause-is c = let e = c.write.ensures.value in grind (arith, e)

pub returns-clause-is : goal.returns-clause-is
unfolding written_of buffer_of
returns-clause-is c = let e = c.write.ensures.value in let o = c.write.ensures.out in grind (arith, e, o)
