-- What the files read as.
use Rattle.std.specs.Prelude.{◌≡◌, ℕ, ◌≤◌, [], Ok}
use Rattle.ba_model.specs.Limits.{most_requests}
use Rattle.ba_script.specs.Reading.{script_of}
use Rattle.ba_tables.specs.TableFile.{rows_of_file}
use Rattle.ba_workload.specs.Files.{workload_text}
use Rattle.ba_workload.specs.Script.{script}
use Rattle.ba_workload.specs.Standard.{attendances_table, events_table, params, users_table}
use Rattle.ba_workload.specs.Tables.{attendance_rows, attendances_text, event_rows, events_text, user_rows, users_text}

-- the table files read as the tables' rows
pub record TablesReadBack : Type 0 where
  pub users : rows_of_file users_table users_text ≡ Ok user_rows
  pub events : rows_of_file events_table events_text ≡ Ok event_rows
  pub attendances : rows_of_file attendances_table attendances_text ≡ Ok attendance_rows

-- for a policy with the standard parameter and no cache key the script's text is read as the script
abbrev pub ScriptReadsBack : Type 0
ScriptReadsBack = (seed requests : ℕ) → requests ≤ most_requests → script_of params [] (workload_text seed requests) ≡ Ok (script seed requests)
