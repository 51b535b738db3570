use Rattle.ba_classes.proofs.OrderLemmas.{IsOrder-copied}
use Rattle.ba_classes.proofs.order.Order.copy.Goals as goal

pub invariant_of-result : goal.invariant_of-result
invariant_of-result c =
    let i = c.self.inside in
    let tied = c.in_ok-copy.field-0 in
    let grid = c.in_ok-copy-2.field-0 in
    rw (c.in_ok-from_slice.ensures.items, c.deref.ensures.value)
    (IsOrder-copied i.facts.items i.tied.values tied.values i.grid.places grid.places i.grid.rows.items grid.rows.items i.is_absurd c.in_ok-copy.ensures c.in_ok-copy-2.ensures.places c.in_ok-copy-2.ensures.rows c.self.invariant)
