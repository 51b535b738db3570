use Rattle.ba_tables.proofs.TwinLemmas.{order_is}
use Rattle.ba_tables.proofs.BoundLemmas.{dangles_none_told}
use Rattle.ba_tables.proofs.broken.link_break.Goals as goal

pub none_dangles-requires-clause-in_order : goal.none_dangles-requires-clause-in_order
none_dangles-requires-clause-in_order c = order_is c.args.rows.now c.args.orders.now c.in-Some.order.now c.args.link.now.target c.rows_of-targets.result.now c.requires c.in-Some.ensures.there c.in-Some.ensures.table c.rows_of-targets.ensures

pub returns-then-none : goal.returns-then-none
returns-then-none c = dangles_none_told c.args.rows.now c.args.table c.args.link.now c.rows_of-own.result.now c.rows_of-targets.result.now c.in_ok-none.none c.if-none.true c.in_ok-none.ensures c.rows_of-own.ensures c.rows_of-targets.ensures
