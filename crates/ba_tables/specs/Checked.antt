-- What checking gives: the tables, or the first broken key, link or rule.
use Rattle.std.specs.Prelude.{Option, Some, None, Result, Ok, Err}
use Rattle.std.specs.Option.{option_or}
use Rattle.ba_model.specs.declared.schema.Schema.{Schema}
use Rattle.ba_model.specs.declared.value.RowSet.{RowSet}
use Rattle.ba_tables.specs.Broken.{broken_table}
use Rattle.ba_tables.specs.Rules.{broken_rule}
use Rattle.ba_tables.specs.TableSet.{TableSet}
use Rattle.ba_tables.specs.declared.broken.TablesFault.{TablesFault}

-- the first broken key or link of the tables, else the first broken rule
unfoldable pub first_fault : Schema → RowSet → Option TablesFault
first_fault schema rows =
    option_or (broken_table 0 rows schema.tables rows.tables) (broken_rule 0 rows schema.rules)

abbrev pub tables_unless : Schema → RowSet → Option TablesFault → Result TableSet TablesFault
tables_unless schema rows None = Ok (record { schema = schema; rows = rows })
tables_unless schema rows (Some fault) = Err fault

-- the tables, or their first fault
abbrev pub checked : Schema → RowSet → Result TableSet TablesFault
checked schema rows = tables_unless schema rows (first_fault schema rows)
