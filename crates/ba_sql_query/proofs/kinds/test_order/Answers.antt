use Rattle.ba_sql_query.proofs.KindLemmas.{among_order}
use Rattle.ba_sql_query.proofs.kinds.test_order.Goals as goal

pub returns-in-Among : goal.returns-in-Among
returns-in-Among c = among_order c.args.schema.now c.args.params.now c.args.from.now c.args.test.now _ _ c.in-Among.is
