use Rattle.std.proofs.Common.{rules, length, ap, arith}
use Rattle.sectors.proofs.Sectors.{stored}
use Rattle.sectors.proofs.SectorImage.store.Goals as goal

pub returns : goal.returns
returns c =
    rw (← c.self.view_is) (stored c.self.inside.base _ c.args.index _ _ _ _ _ c.put.ensures c.copy_from_slice.ensures.after c.get.ensures (search rules) (omega arith) (omega (arith, ap (λ x. length x.row) c.self.view_is)) (omega arith))
