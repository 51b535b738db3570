-- Selects whose names are numbers of what is there.
use Rattle.std.specs.Prelude.{◌≡◌, true, List, []}
use Rattle.std.specs.List.{list_all}
use Rattle.ba_model.specs.Fit.{kinds_of}
use Rattle.ba_model.specs.QueryFaults as faults
use Rattle.ba_model.specs.declared.policy.Parameter.{Parameter}
use Rattle.ba_model.specs.declared.schema.Schema.{Schema}
use Rattle.ba_sql_query.specs.Parts.{written_part}
use Rattle.ba_sql_query.specs.declared.resolved.ResolvedSelect.{ResolvedSelect}

-- each has a source, and the tables, columns and parameters that it names are there
pub record AreResolved (schema : Schema) (params : List Parameter) (selects : List ResolvedSelect) : Type 0 where
  pub tables : list_all (λ select. faults.tables_there schema (written_part select)) selects ≡ true
  pub columns : list_all (λ select. faults.columns_there schema (written_part select)) selects ≡ true
  pub named : list_all (λ select. faults.all_named (kinds_of params) [] (written_part select)) selects ≡ true
