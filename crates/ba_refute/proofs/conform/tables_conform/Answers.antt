use Rattle.ba_refute.proofs.RisingLemmas.{fit_as}
use Rattle.ba_refute.proofs.conform.tables_conform.Goals as goal

pub returns : goal.returns
returns c = fit_as c.args.tables.now c.args.rows.now c.in_ok-in_order.in_order c.conform-2.result c.in_ok-in_order.ensures c.conform-2.ensures
