-- A printed query reads back as itself.
use Rattle.std.specs.Prelude.{◌≡◌, ◌≤◌, ◌^◌, All, List, length, map, Ok}
use Rattle.ba_model.specs.SchemaFaults.{AreDistinct, AreTables, column_names, table_names}
use Rattle.ba_model.specs.Limits.{most_query_bytes}
use Rattle.ba_model.specs.declared.policy.Parameter.{Parameter}
use Rattle.ba_model.specs.declared.query.Query.{Query}
use Rattle.ba_model.specs.declared.schema.Schema.{Schema}
use Rattle.ba_model.specs.declared.schema.Table.{Table}
use Rattle.ba_sql_print.specs.Printed.{query_text}
use Rattle.ba_sql_print.specs.Spelling.{HasSpelling}
use Rattle.ba_sql_query.specs.Reads.{ReadsQuery}
use Rattle.ba_sql_query.specs.Texts.{query_of}

-- no two tables have one name, and no two columns of a table; their numbers have 32 bits
pub record AreNamedApart (all : List Table) : Type 0 where
  pub tables : AreDistinct (table_names all)
  pub columns : All (λ (table : Table). AreDistinct (column_names table.columns)) all
  pub few_tables : length all ≤ 2 ^ 32
  pub few_columns : All (λ (table : Table). length table.columns ≤ 2 ^ 32) all

-- a checked schema's tables are so
abbrev pub CheckedTablesAreApart : Type 0
CheckedTablesAreApart = (tables : List Table) → AreTables tables → AreNamedApart tables

-- a query that can be written, over tables and parameters named apart, whose text isn't too long
pub record IsPrintable (schema : Schema) (params : List Parameter) (query : Query) : Type 0 where
  pub spelling : HasSpelling schema params query
  pub tables : AreNamedApart schema.tables
  pub params_apart : AreDistinct (map (λ parameter. parameter.name) params)
  pub short : length (query_text schema params query) ≤ most_query_bytes

abbrev pub PrintedQueryReadsBack : Type 0
PrintedQueryReadsBack = (schema : Schema) (params : List Parameter) (query : Query) → IsPrintable schema params query
    → query_of schema params (query_text schema params query) ≡ Ok query

-- and its text reads as it in SQL's terms
abbrev pub PrintedQueryIsRead : Type 0
PrintedQueryIsRead = (schema : Schema) (params : List Parameter) (query : Query) → IsPrintable schema params query
    → ReadsQuery schema params (query_text schema params query) query
