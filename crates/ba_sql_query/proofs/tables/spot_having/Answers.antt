use Rattle.std.proofs.Common.{get_or, refl, sym}
use Rattle.ba_sql_query.specs.Names.{has_column}
use Rattle.ba_sql_query.specs.declared.tables.Kept.{Kept}
use Rattle.ba_sql_query.proofs.TellLemmas.{found_kept, none_kept}
use Rattle.ba_sql_query.proofs.tables.spot_having.Goals as goal

pub returns-in-Some : goal.returns-in-Some
returns-in-Some c =
    let default : Kept = record { table = 0; place = 0 } in
    found_kept (has_column c.args.schema.now c.args.name.now) c.args.kept.now c.in-Some.at (get_or c.args.kept.now c.in-Some.at default) default c.any_having.result (sym c.in-Some.ensures) refl c.any_having.ensures

pub returns-in-None : goal.returns-in-None
returns-in-None c = sym (none_kept (has_column c.args.schema.now c.args.name.now) c.args.kept.now (sym c.in-None.ensures))
