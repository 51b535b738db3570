use Rattle.ba_sql_query.proofs.KindLemmas.{kinds_false, kinds_true}
use Rattle.ba_sql_query.proofs.kinds.select_kinds.Goals as goal

pub returns-then-nodes_kinds : goal.returns-then-nodes_kinds
returns-then-nodes_kinds c =
    kinds_true c.args.schema.now c.args.params.now c.args.select.now c.nodes_kinds.result c.none_is_null.result (rw (c.as_slice-from.ensures, c.as_slice.ensures) at c.nodes_kinds.ensures) c.if-nodes_kinds.true (rw c.as_slice-then-nodes_kinds.ensures at c.none_is_null.ensures)

pub returns-else-nodes_kinds : goal.returns-else-nodes_kinds
returns-else-nodes_kinds c =
    kinds_false c.args.schema.now c.args.params.now c.args.select.now c.nodes_kinds.result (rw (c.as_slice-from.ensures, c.as_slice.ensures) at c.nodes_kinds.ensures) c.if-nodes_kinds.false
