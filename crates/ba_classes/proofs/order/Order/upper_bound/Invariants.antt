use Rattle.std.proofs.Common.{take}
use Rattle.ba_classes.specs.Image.{IsLeast, IsAtMost}
use Rattle.ba_classes.proofs.order.Order.upper_bound.Given as goal

abbrev pub invariant-loop-other : goal.invariant-loop-other
invariant-loop-other l = IsLeast (IsAtMost l.self (take l.other-index l.valued) l.node) l.bound
