use Rattle.calls.proofs.Kits.{lawful_by}
use Rattle.server.proofs.Goes.{closes}
use Rattle.server.proofs.Running.close.Goals as goal

pub returns : goal.returns
returns g c = rw c.cold.ensures (closes _ _ (lawful_by (g.met.G.Generator.lawful c.args.self.generator) (g.met.S.Sealer.lawful c.args.self.sealer)) _)
