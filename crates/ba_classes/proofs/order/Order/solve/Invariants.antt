use Rattle.std.proofs.Common.{take}
use Rattle.ba_classes.proofs.ImageLemmas.{IsSoFar}
use Rattle.ba_classes.proofs.order.Order.solve.Given as goal

abbrev pub invariant-loop-node : goal.invariant-loop-node
invariant-loop-node l =
    IsSoFar l.self l.used (take l.node-index l.nodes) l.valued.items l.taken.items l.values.items
