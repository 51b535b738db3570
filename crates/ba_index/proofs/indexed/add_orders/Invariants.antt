use Rattle.std.proofs.Common.{All}
use Rattle.ba_index.specs.Orders.{IsOrderOf}
use Rattle.ba_index.proofs.indexed.add_orders.Given as goal

abbrev pub invariant-loop-key : goal.invariant-loop-key
invariant-loop-key l = All (IsOrderOf l.rows) l.orders
