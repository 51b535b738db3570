use Rattle.ba_sql_print.proofs.PlaceLemmas.{checked_apart}
use Rattle.ba_sql_print.proofs.laws.checked_tables_are_apart.Goals as goal

pub returns : goal.returns
returns c = checked_apart
