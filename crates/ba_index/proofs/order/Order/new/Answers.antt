use Rattle.ba_index.proofs.NumberLemmas.{order_made}
use Rattle.ba_index.proofs.order.Order.new.Goals as goal

pub returns-clause-order : goal.returns-clause-order
returns-clause-order c =
    order_made _ _ _ _ _ c.from_vec.ensures (c.as_slice.ensures) c.in_ok-numbers.ensures c.put_in_order.ensures.moved c.put_in_order.ensures.sorted
