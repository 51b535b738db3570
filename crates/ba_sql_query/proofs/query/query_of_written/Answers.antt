use Rattle.ba_sql_query.proofs.ResolvedLemmas.{names_good}
use Rattle.ba_sql_query.proofs.query.query_of_written.Goals as goal

pub query_of_selects-requires : goal.query_of_selects-requires
query_of_selects-requires c =
    rw c.as_slice-2.ensures (names_good c.args.schema.now c.args.params.now c.args.text.now c.in_ok-selects.selects (rw c.as_slice.ensures at c.in_ok-selects.ensures))
