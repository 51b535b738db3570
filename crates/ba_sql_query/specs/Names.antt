-- What the names in a select mean: tables, columns and parameters by their numbers, sources by their places.
use Rattle.std.specs.Prelude.{ℕ, Bool, nat_le, nat_lt, List, Option, Some, None, is_some, option_and_then, unwrap_or, slice_get, count_by, Result, Ok, Err, if◌then◌else◌}
use Rattle.std.specs.List.{position}
use Rattle.std.specs.Str.{bytes_eq}
use Rattle.ba_model.specs.Readings.{◌>>=◌}
use Rattle.ba_model.specs.SchemaFaults.{columns_of}
use Rattle.ba_model.specs.declared.policy.Parameter.{Parameter}
use Rattle.ba_model.specs.declared.query.Operand.{Operand}
use Rattle.ba_model.specs.declared.query.Operand.TheVariants.{Col, Val, Param}
use Rattle.ba_model.specs.declared.schema.Schema.{Schema}
use Rattle.ba_sql_syntax.specs.declared.written.Constant.{Constant}
use Rattle.ba_sql_syntax.specs.declared.written.Constant.TheVariants as constants
use Rattle.ba_sql_syntax.specs.declared.written.Named.{Named}
use Rattle.ba_sql_syntax.specs.declared.written.Side.{Side}
use Rattle.ba_sql_syntax.specs.declared.written.Side.TheVariants as sides
use Rattle.ba_sql_syntax.specs.declared.written.Source.{Source}
use Rattle.ba_sql_query.specs.declared.fault.ReadQueryFault.{ReadQueryFault}
use Rattle.ba_sql_query.specs.declared.fault.ReadQueryFault.TheVariants.{UnknownTable, UnknownColumn, Ambiguous, UnknownParam}

-- what is found at a place, whose number has 32 bits
abbrev pub numbered : ReadQueryFault → Option ℕ → Result ℕ ReadQueryFault
numbered absent None = Err absent
numbered absent (Some n) = if nat_le n 0xffff_ffff then Ok n else Err absent

-- the only one that passes
abbrev pub only : {X : Type 0} → ReadQueryFault → (X → Bool) → List X → Result ℕ ReadQueryFault
only absent p xs = if nat_lt 1 (count_by p xs) then Err Ambiguous else numbered absent (position p xs)

-- ---- tables and parameters

unfoldable pub table_of : Schema → List ℕ → Result ℕ ReadQueryFault
table_of schema name = numbered UnknownTable (position (λ table. bytes_eq table.name name) schema.tables)

unfoldable pub param_of : List Parameter → List ℕ → Result Operand ReadQueryFault
param_of params name = numbered UnknownParam (position (λ parameter. bytes_eq parameter.name name) params) >>= λ n. Ok (Param n)

-- ---- columns: from are the numbers of the sources' tables

-- what a source is called
abbrev pub called : Source → List ℕ
called source = unwrap_or source.alias source.table

-- the place of the only source that is called so
unfoldable pub source_of : List Source → List ℕ → Result ℕ ReadQueryFault
source_of sources name = only UnknownTable (λ source. bytes_eq (called source) name) sources

-- where the column stands in the table of this number
abbrev pub column_place : Schema → List ℕ → ℕ → Option ℕ
column_place schema name table = position (λ column. bytes_eq column.name name) (columns_of schema.tables table)

abbrev pub has_column : Schema → List ℕ → ℕ → Bool
has_column schema name table = is_some (column_place schema name table)

-- the place of the only source that has the column
unfoldable pub place_of : Schema → List ℕ → List ℕ → Result ℕ ReadQueryFault
place_of schema from name = only UnknownColumn (has_column schema name) from

-- the column of the source at a place
unfoldable pub column_at : Schema → List ℕ → List ℕ → ℕ → Result Operand ReadQueryFault
column_at schema from name place = numbered UnknownColumn (option_and_then (column_place schema name) (slice_get from place)) >>= λ n. Ok (Col place n)

-- the place of the source that is meant
abbrev pub meant_by : Schema → List Source → List ℕ → Option (List ℕ) → List ℕ → Result ℕ ReadQueryFault
meant_by schema sources from None column = place_of schema from column
meant_by schema sources from (Some qualifier) column = source_of sources qualifier

unfoldable pub meant : Schema → List Source → List ℕ → Named → Result ℕ ReadQueryFault
meant schema sources from name = meant_by schema sources from name.qualifier name.column

unfoldable pub column_of : Schema → List Source → List ℕ → Named → Result Operand ReadQueryFault
column_of schema sources from name = meant schema sources from name >>= column_at schema from name.column

-- ---- operands

unfoldable pub constant_of : List Parameter → Constant → Result Operand ReadQueryFault
constant_of params (constants.Value v) = Ok (Val v)
constant_of params (constants.Param name) = param_of params name

unfoldable pub operand_of : Schema → List Parameter → List Source → List ℕ → Side → Result Operand ReadQueryFault
operand_of schema params sources from (sides.Column name) = column_of schema sources from name
operand_of schema params sources from (sides.Constant c) = constant_of params c
