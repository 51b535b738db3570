use Rattle.std.proofs.Common.{◌≡◌, rules, ap}
use Rattle.std.proofs.lemmas.Fn.{always_returns_same}
use Rattle.std.proofs.lemmas.List.Sorted.{ranks_by}
use Rattle.std.specs.Ordering.{is_lt}
use Rattle.ba_model.specs.Order.{row_cmp}
use Rattle.ba_model.specs.OrderLaws.{row_total}
use Rattle.ba_index.specs.Orders.{values_at}
use Rattle.ba_index.proofs.order.put_in_order.Goals as goal

pub returns-clause-sorted : goal.returns-clause-sorted
returns-clause-sorted c =
    let key = values_at c.args.rows.now c.args.columns.now in
    c.sort_unstable_by.ensures.sorted _ (ranks_by row_total key)
    (always_returns_same _ _ _ (λ a r f k. let e : r ≡ row_cmp (key a.0.now) (key a.1.0.now) = search rules in (ap is_lt e, search rules)))
