use Rattle.ba_sql_query.proofs.KindLemmas.{order_of_select}
use Rattle.ba_sql_query.proofs.kinds.select_order.Goals as goal

pub returns : goal.returns
returns c = order_of_select c.args.schema.now c.args.params.now c.args.select.now c.nodes_order.result (rw (c.as_slice-from.ensures, c.as_slice.ensures) at c.nodes_order.ensures)
