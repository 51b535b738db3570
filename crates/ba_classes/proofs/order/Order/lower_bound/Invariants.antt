use Rattle.std.proofs.Common.{take}
use Rattle.ba_classes.specs.Image.{IsGreatest, IsAtLeast}
use Rattle.ba_classes.proofs.order.Order.lower_bound.Given as goal

abbrev pub invariant-loop-other : goal.invariant-loop-other
invariant-loop-other l = IsGreatest (IsAtLeast l.self (take l.other-index l.valued) l.node) l.bound
