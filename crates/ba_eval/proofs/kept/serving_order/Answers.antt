use Rattle.std.proofs.Common.{refl}
use Rattle.ba_eval.proofs.KeptLemmas.{kept_here}
use Rattle.ba_eval.proofs.kept.serving_order.Goals as goal

pub returns-then-serves : goal.returns-then-serves
returns-then-serves c =
    kept_here c.args.search.now.bounded c.args.search.now.rows.now _ _ _ _ _ _ _ _ _ _ _ c.requires.orders c.loop-order-test.true c.order-item.is c.if-order-table.true
    c.as_slice.ensures refl c.as_slice-then-order-table.ensures.value c.requires.ties c.in_ok-front.ensures (c.serves.ensures c.if-serves.true)
