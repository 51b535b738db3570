use Rattle.ba_tables.proofs.TwinLemmas.{clash_none_told, order_is}
use Rattle.ba_tables.proofs.broken.key_clash.Goals as goal

pub has_twins-requires : goal.has_twins-requires
has_twins-requires c = order_is c.args.rows.now c.args.orders.now c.in-Some.order.now c.args.table c.rows_of-own.result.now c.requires c.in-Some.ensures.there c.in-Some.ensures.table c.rows_of-own.ensures

pub returns-then-not-has_twins : goal.returns-then-not-has_twins
returns-then-not-has_twins c = clash_none_told c.args.rows.now c.args.table c.args.key.now c.in-Some.order.now.columns c.rows_of-own.result.now c.has_twins.result c.if-not-has_twins.true c.has_twins.ensures c.in-Some.ensures.columns c.rows_of-own.ensures
