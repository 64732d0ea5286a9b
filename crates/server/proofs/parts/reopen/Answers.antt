use Rattle.std.proofs.Common.{sym}
use Rattle.server.proofs.parts.reopen.Goals as goal

pub returns-clause-did : goal.returns-clause-did
returns-clause-did g c = (c.reopen_on-reopened.result, c.told.ensures, c.reopen_on-reopened.ensures.did _ (sym c.numbers_of-numbers.ensures))
