use Rattle.ba_classes.proofs.OrderLemmas.{IsOrder-none}
use Rattle.ba_classes.proofs.order.Order.new.Goals as goal

pub invariant_of-result : goal.invariant_of-result
invariant_of-result c = rw c.new.ensures.items (IsOrder-none _ _ _ c.new-2.ensures c.new-3.ensures.unnamed c.new-3.ensures.absent)
