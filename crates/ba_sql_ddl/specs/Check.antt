-- The first fault of a draft, as a function.
use Rattle.std.specs.Prelude.{Bool, true, not, ◌&&◌, nat_eq, List, [], ◌∷◌, Option, Some, None, Result, Ok, Err, if◌then◌else◌}
use Rattle.std.specs.List.{list_all, list_any}
use Rattle.ba_model.specs.Limits.{limit_of}
use Rattle.ba_model.specs.Readings.{widened}
use Rattle.ba_model.specs.SchemaFaults.{column_names, columns_there, excess, kinds_agree, some_columns, table_names, targets_there, widths_agree}
use Rattle.ba_model.specs.declared.limits.Counted.{Counted}
use Rattle.ba_model.specs.declared.check_schema.SchemaFault.{SchemaFault}
use Rattle.ba_model.specs.declared.check_schema.SchemaFault.TheVariants.{DuplicateTable, DuplicateColumn, UnknownTable, UnknownColumn, WidthDiffers, KindDiffers, EmptyKey, TooMany}
use Rattle.ba_model.specs.declared.schema.Schema.{Schema}
use Rattle.ba_model.specs.declared.schema.Table.{Table}
use Rattle.ba_sql_ddl.specs.Numbers.{same_name}
use Rattle.ba_sql_ddl.specs.declared.fault.DdlFault.{DdlFault}
use Rattle.ba_sql_ddl.specs.declared.fault.DdlFault.TheVariants.{Schema as SchemaFaulty}

-- no two are the same
abbrev pub are_distinct : {A : Type 0} → (A → A → Bool) → List A → Bool
are_distinct eq [] = true
are_distinct eq (x ∷ xs) = not (list_any (eq x) xs) && are_distinct eq xs

abbrev pub columns_distinct : Table → Bool
columns_distinct t = are_distinct same_name (column_names t.columns) && list_all (are_distinct nat_eq) t.keys

abbrev pub too_many : Option Counted → Option SchemaFault
too_many (Some what) = Some (TooMany what (limit_of what))
too_many None = None

unfoldable pub first_fault : List Table → Option SchemaFault
first_fault tables =
    if not (are_distinct same_name (table_names tables)) then Some DuplicateTable
    else (if not (list_all columns_distinct tables) then Some DuplicateColumn
    else (if not (list_all (targets_there tables) tables) then Some UnknownTable
    else (if not (list_all (columns_there tables) tables) then Some UnknownColumn
    else (if not (list_all widths_agree tables) then Some WidthDiffers
    else (if not (list_all (kinds_agree tables) tables) then Some KindDiffers
    else (if not (list_all some_columns tables) then Some EmptyKey
    else too_many (excess tables)))))))

abbrev pub schema : List Table → Schema
schema tables = record { tables = tables; rules = [] }

abbrev pub without_fault : Option SchemaFault → List Table → Result Schema SchemaFault
without_fault (Some f) tables = Err f
without_fault None tables = Ok (schema tables)

-- well-formed tables as a schema, or their first fault
abbrev pub well_formed : List Table → Result Schema SchemaFault
well_formed tables = without_fault (first_fault tables) tables

-- the same, with the fault as one of a file
unfoldable pub checked : List Table → Result Schema DdlFault
checked tables = widened SchemaFaulty (well_formed tables)
