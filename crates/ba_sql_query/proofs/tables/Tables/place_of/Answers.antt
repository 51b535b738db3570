use Rattle.std.proofs.Common.{◌∙◌}
use Rattle.ba_sql_query.specs.Names.{has_column, place_of}
use Rattle.ba_sql_query.specs.declared.fault.ReadQueryFault.TheVariants.{UnknownColumn}
use Rattle.ba_sql_query.proofs.SpotLemmas.{only_found}
use Rattle.ba_sql_query.proofs.tables.Tables.place_of.Goals as goal

pub returns : goal.returns
unfolding place_of
returns c =
    let has = has_column c.args.schema.now c.args.name.now in
    c.only_at.ensures ∙ only_found has UnknownColumn c.self.inside.all.now c.args.self.now c.spot_having.result ((rw c.deref.ensures.value at c.spot_having.ensures) ∙ c.self.invariant.of has) c.self.view_is
