-- A schema and rows of its tables.
use Rattle.std.specs.Prelude.{All, List}
use Rattle.std.specs.List.{AllZip}
use Rattle.ba_model.specs.Conform.{RowFits}
use Rattle.ba_model.specs.declared.schema.Schema.{Schema}
use Rattle.ba_model.specs.declared.schema.Table.{Table}
use Rattle.ba_model.specs.declared.value.RowSet.{RowSet}
use Rattle.ba_model.specs.declared.value.Value.{Value}

-- what callers see of tables
pub record TableSet : Type 0 where
  pub schema : Schema
  pub rows : RowSet

-- for each table there is one list, of rows that fit the table
abbrev pub ListsFit : List Table → List (List (List Value)) → Type 0
ListsFit tables lists = AllZip (λ table list. All (RowFits table) list) tables lists

-- the same of a schema's tables
pub record RowsFit (schema : Schema) (rows : RowSet) : Type 0 where
  pub tables : ListsFit schema.tables rows.tables
