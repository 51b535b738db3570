use Rattle.ba_sql_query.proofs.KindLemmas.{among_kinds}
use Rattle.ba_sql_query.proofs.kinds.test_kinds.Goals as goal

pub returns-in-Among : goal.returns-in-Among
returns-in-Among c = among_kinds c.args.schema.now c.args.params.now c.args.from.now c.args.test.now _ _ c.all_agree.result c.in-Among.is (rw c.as_slice.ensures at c.all_agree.ensures)
