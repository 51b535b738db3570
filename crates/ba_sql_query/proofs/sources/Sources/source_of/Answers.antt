use Rattle.std.proofs.Common.{◌∙◌}
use Rattle.std.specs.Str.{bytes_eq}
use Rattle.ba_sql_syntax.specs.declared.written.Source.{Source}
use Rattle.ba_sql_query.specs.Names.{called, source_of}
use Rattle.ba_sql_query.specs.declared.fault.ReadQueryFault.TheVariants.{UnknownTable}
use Rattle.ba_sql_query.proofs.SpotLemmas.{only_found}
use Rattle.ba_sql_query.proofs.sources.Sources.source_of.Goals as goal

pub returns : goal.returns
unfolding source_of
returns c =
    let by = λ (source : Source). bytes_eq (called source) c.args.name.now in
    c.only_at.ensures ∙ only_found by UnknownTable c.self.inside.all.now c.args.self.now c.copied.result (c.copied.ensures ∙ (rw c.as_str.ensures at c.get.ensures.value) ∙ c.self.invariant.of c.args.name.now) c.self.view_is
