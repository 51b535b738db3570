use Rattle.std.proofs.Common.{All}
use Rattle.ba_index.specs.Orders.{IsOrderOf}
use Rattle.ba_index.proofs.indexed.orders_of.Given as goal

abbrev pub invariant-loop-number : goal.invariant-loop-number
invariant-loop-number l = All (IsOrderOf l.rows) l.orders
