use Rattle.std.proofs.Common.{◌≡◌}
use Rattle.ba_classes.proofs.order.Order.settle.Given as goal

abbrev pub invariant-loop : goal.invariant-loop
invariant-loop l = l.self ≡ l.initial.self
