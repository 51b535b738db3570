use Rattle.ba_index.specs.Orders.{AreNumbers}
use Rattle.ba_index.proofs.order.numbers_of.Given as goal

-- the numbers so far
abbrev pub invariant-loop-number : goal.invariant-loop-number
invariant-loop-number l = AreNumbers l.number l.numbers.items
