use Rattle.std.proofs.Common.{◌∙◌, sym}
use Rattle.ba_sql_query.proofs.PartsLemmas.{parts_fit}
use Rattle.ba_sql_query.proofs.query.query_of_selects.Goals as goal

pub returns-in_ok-parts-in-None-clause-query : goal.returns-in_ok-parts-in-None-clause-query
returns-in_ok-parts-in-None-clause-query c =
    parts_fit c.args.schema.now c.args.params.now c.args.selects.now c.in_ok-parts-in-None.parts c.requires (rw c.as_slice.ensures at (sym c.in_ok-fault.ensures) ∙ c.in-None.is) c.in_ok-parts-in-None.ensures
