use Rattle.std.proofs.Common.{◌≤◌, ◌^◌, arith, pow_mono}
use Rattle.tree.proofs.Shapes.{node_end}
use Rattle.tree.proofs.Node.siblings.Goals as goal

pub loop-h-init : goal.loop-h-init
loop-h-init c =
    let w = c.in_ok-levels_to.ensures in
    let m : 2 ^ c.args.height ≤ 2 ^ 24 = pow_mono w.0.few in
    grind (arith, node_end c.args.height c.args.self.now w.0.is_node, w.0.few, w.0.is_node.shallow, w.1)
