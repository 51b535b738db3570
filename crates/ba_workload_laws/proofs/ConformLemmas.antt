-- The tables keep the schema's keys and links.
use Rattle.std.proofs.Common.{◌≡◌, None, Ok, refl, ap}
use Rattle.ba_tables.specs.Broken.{broken_key, broken_link, broken_table, clash_after}
use Rattle.ba_tables.specs.Checked.{checked, first_fault, tables_unless}
use Rattle.ba_tables.specs.Rules.{broken_rule}
use Rattle.ba_workload.specs.Lists.{all_of, each_of}
use Rattle.ba_workload.specs.Standard.{schema}
use Rattle.ba_workload.specs.Tables.{attendance_row, event_row, tables, user_row}

no_fault : first_fault schema tables ≡ None
unfolding first_fault broken_table broken_key broken_link broken_rule clash_after all_of each_of user_row event_row attendance_row
no_fault = refl

pub tables_conform : checked schema tables ≡ Ok (record { schema = schema; rows = tables })
tables_conform = ap (tables_unless schema tables) no_fault
