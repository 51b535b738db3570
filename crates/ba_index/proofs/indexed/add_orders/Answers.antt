use Rattle.ba_index.proofs.NumberLemmas.{orders_more}
use Rattle.ba_index.proofs.indexed.add_orders.Goals as goal

pub loop-key-preserved : goal.loop-key-preserved
loop-key-preserved c =
    orders_more _ _ _ _ _ _ c.in_ok-push.ensures.ok c.loop-key.invariant c.in_ok-order.ensures.table c.rows_of_table.ensures c.in_ok-order.ensures.order
