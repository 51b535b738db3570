-- How what the words name is read.
use Rattle.std.specs.Prelude.{ℕ, List, [], ◌∷◌, ◌++◌, Bool, true, false, Option, Some, None, Result, Ok, Err, codes, if◌then◌else◌, length, nat_lt, unwrap_or}
use Rattle.std.specs.Option.{option_to_list}
use Rattle.ba_command.specs.Words.{command_of, usual_orders}
use Rattle.ba_command.specs.declared.command.Command.{Command}
use Rattle.ba_command.specs.declared.command.Command.TheVariants.{Run, Check, Gen, Store, Audit}
use Rattle.ba_command.specs.declared.command.WordsFault.{WordsFault}
use Rattle.ba_command.specs.declared.command.WordsFault.TheVariants.{NoForm}
use Rattle.ba_model.specs.Readings.{widened}
use Rattle.ba_model.specs.declared.policy.Policy.{Policy}
use Rattle.ba_model.specs.declared.schema.Schema.{Schema}
use Rattle.ba_model.specs.declared.schema.Table.{Table}
use Rattle.ba_model.specs.declared.value.Value.{Value}
use Rattle.ba_model.specs.declared.limits.Counted.TheVariants.{FileBytes}
use Rattle.ba_model.specs.Limits.{most_file_bytes, usual_budget, usual_workers}
use Rattle.ba_plan.specs.Plan.{Plan, done, refuse, ask, found, ◌>>=◌}
use Rattle.ba_policy.specs.Reading.{policy_of}
use Rattle.ba_proof.specs.Reading.{proof_of}
use Rattle.ba_proof.specs.declared.proof.Proof.{Proof}
use Rattle.ba_script.specs.Reading.{script_of}
use Rattle.ba_script.specs.declared.entry.Script.{Script}
use Rattle.ba_script.specs.declared.entry.ScriptEntry.{ScriptEntry}
use Rattle.ba_script.specs.declared.entry.ScriptEntry.TheVariants as said
use Rattle.ba_sql_ddl.specs.Reading.{schema_of}
use Rattle.ba_tables.specs.Checked.{checked}
use Rattle.ba_tables.specs.TableFile.{rows_of_file}
use Rattle.ba_tables.specs.TableSet.{TableSet}
use Rattle.ba_input.specs.Path.{path_of}
use Rattle.ba_input.specs.Refusals.{broken_refusal, ddl_refusal, policy_refusal, proof_refusal, script_refusal, table_refusal}
use Rattle.ba_input.specs.declared.input.Input.{Input}
use Rattle.ba_input.specs.declared.run_input.Named.{Named}
use Rattle.ba_wire.specs.declared.fault.Fault.{Fault}
use Rattle.ba_wire.specs.declared.fault.Fault.TheVariants.{Limit, Words}
use Rattle.ba_input.specs.declared.task.Task.{Task}
use Rattle.ba_input.specs.declared.task.Task.TheVariants as task
use Rattle.ba_input.specs.declared.task.Told.{Told}
use Rattle.ba_input.specs.declared.task.Told.TheVariants.{Lines, Proofs, Summary, Templates}
use Rattle.ba_workload.specs.Files.{bytes_in, files_of, workload_text}

-- ---- a run

-- the names of the files, and of the table set, the number of workers, the budget of a search, and in
-- how many orders it is made
pub record Names : Type 0 where
  pub schema : List ℕ
  pub policy : List ℕ
  pub tables : List ℕ
  pub script : List ℕ
  pub workers : ℕ
  pub budget : ℕ
  pub orders : ℕ

-- those that are lent
abbrev pub names_of : Named → Names
names_of it = record { schema = it.schema.now; policy = it.policy.now; tables = it.tables.now; script = it.script.now; workers = it.workers; budget = it.budget; orders = it.orders }

abbrev pub file_of : List ℕ → Plan Fault (List ℕ)
file_of name = ask name most_file_bytes done

abbrev pub table_plan : List ℕ → Table → Plan Fault (List (List Value))
table_plan set table = do
  bytes ← file_of (path_of set table.name)
  found (widened (table_refusal (path_of set table.name)) (rows_of_file table bytes))

-- the rows of each table, behind those that were read before
abbrev pub rows_plan : List ℕ → List Table → List (List (List Value)) → Plan Fault (List (List (List Value)))
rows_plan set [] lists = done lists
rows_plan set (table ∷ tables) lists = do
  list ← table_plan set table
  rows_plan set tables (lists ++ list ∷ [])

-- the rows of all tables, and then their keys and links
abbrev pub tables_plan : List ℕ → Schema → Plan Fault TableSet
tables_plan set schema = do
  lists ← rows_plan set schema.tables []
  found (widened (broken_refusal set schema) (checked schema (record { tables = lists })))

-- the table set that a line publishes, if it does
abbrev pub set_plan : Schema → ScriptEntry → Plan Fault (Option TableSet)
set_plan schema (said.Begin request name context) = done None
set_plan schema (said.Ask request name text) = done None
set_plan schema (said.Read request name key arguments questions) = done None
set_plan schema (said.End request name) = done None
set_plan schema (said.Publish number set) = do
  tables ← tables_plan set schema
  done (Some tables)

-- the table sets that the lines publish, behind those that were read before
abbrev pub sets_plan : Schema → List ScriptEntry → List TableSet → Plan Fault (List TableSet)
sets_plan schema [] sets = done sets
sets_plan schema (entry ∷ entries) sets = do
  set ← set_plan schema entry
  sets_plan schema entries (sets ++ option_to_list set)

abbrev pub published_plan : Names → Policy → TableSet → Script → Plan Fault Input
published_plan names policy tables script = do
  published ← sets_plan policy.schema script.entries []
  done (record { policy = policy; tables = tables; script = script; published = published; workers = names.workers; budget = names.budget; loaded = []; orders = names.orders })

abbrev pub script_plan : Names → Policy → TableSet → Plan Fault Input
script_plan names policy tables = do
  bytes ← file_of names.script
  script ← found (widened (script_refusal names.script) (script_of policy.params policy.keys bytes))
  published_plan names policy tables script

abbrev pub rest_plan : Names → Schema → Policy → Plan Fault Input
rest_plan names schema policy = do
  tables ← tables_plan names.tables schema
  script_plan names policy tables

abbrev pub policy_plan : Names → Schema → Plan Fault Input
policy_plan names schema = do
  bytes ← file_of names.policy
  policy ← found (widened (policy_refusal names.policy) (policy_of schema bytes))
  rest_plan names schema policy

-- first the schema, then the policy, then the tables in the schema's order with their keys and links, then the script, and then the table
-- sets that its lines publish, in their order, each as the first
abbrev pub reading_of : Names → Plan Fault Input
reading_of names = do
  bytes ← file_of names.schema
  schema ← found (widened (ddl_refusal names.schema) (schema_of bytes))
  policy_plan names schema

-- ---- a workload

-- a plan over files that are given, as one that asks for none; a file that is too long is a count above its limit
abbrev pub over : {X : Type 0} → (List ℕ → List ℕ) → Plan Fault X → Plan Fault X
over bytes (done x) = done x
over bytes (refuse e) = refuse e
over bytes (ask name limit next) = if nat_lt limit (length (bytes name)) then refuse (Limit FileBytes limit) else over bytes (next (bytes name))

abbrev pub workload_names : ℕ → Names
workload_names workers = record { schema = codes "schema.sql"; policy = codes "policy.sql"; tables = codes "tables"; script = codes "script.jsonl"; workers = workers; budget = usual_budget; orders = usual_orders }

-- the input of a workload: its files are read as those of a run
unfoldable pub workload_reading : ℕ → ℕ → ℕ → Plan Fault Input
workload_reading seed requests workers = over (λ name. unwrap_or (bytes_in (files_of seed requests) name) []) (reading_of (workload_names workers))

-- ---- a check

-- the names of the files of a check
pub record ProofNames : Type 0 where
  pub schema : List ℕ
  pub policy : List ℕ
  pub proof : List ℕ

abbrev pub proof_plan : List ℕ → Policy → Plan Fault Proof
proof_plan name policy = do
  bytes ← file_of name
  found (widened (proof_refusal name) (proof_of policy bytes))

abbrev pub policy_and_proof_plan : ProofNames → Schema → Plan Fault Proof
policy_and_proof_plan names schema = do
  bytes ← file_of names.policy
  policy ← found (widened (policy_refusal names.policy) (policy_of schema bytes))
  proof_plan names.proof policy

-- first the schema, then the policy, then the proof
abbrev pub proof_reading_of : ProofNames → Plan Fault Proof
proof_reading_of names = do
  bytes ← file_of names.schema
  schema ← found (widened (ddl_refusal names.schema) (schema_of bytes))
  policy_and_proof_plan names schema

-- ---- an audit

-- what the run was given whose output is audited, which isn't run anew
abbrev pub given_names : (schema policy tables script : List ℕ) → Names
given_names schema policy tables script = record { schema = schema; policy = policy; tables = tables; script = script; workers = usual_workers; budget = usual_budget; orders = usual_orders }

-- the output, whatever its bytes are
abbrev pub output_plan : List ℕ → Input → Plan Fault Task
output_plan name input = do
  bytes ← file_of name
  done (task.Audit input bytes)

-- first all that the run was given, and last the output
abbrev pub audit_plan : Names → List ℕ → Plan Fault Task
audit_plan names output = do
  input ← reading_of names
  output_plan output input

-- ---- the commands

-- What the files give: a task; or one that is whole once the input has its templates, those that the
-- bytes of a file come to. Whether steps are accepted is no function of bytes, so that is said behind
-- the plan (Becomes of Reads).
pub data Gathered : Type 0 where
  ready : Task → Gathered
  loading : Input → Told → (file bytes : List ℕ) → Gathered

abbrev pub gathered : Plan Fault Task → Plan Fault Gathered
gathered plan = do
  it ← plan
  done (ready it)

-- the file of the templates, if one is named: the last that is asked for
abbrev pub load_plan : Told → Option (List ℕ) → Input → Plan Fault Gathered
load_plan told None input = done (ready (task.Run input told))
load_plan told (Some file) input = do
  bytes ← file_of file
  done (loading input told file bytes)

-- a run tells its lines, with their proofs or without
abbrev pub told_by : Bool → Told
told_by true = Proofs
told_by false = Lines

-- a script that is served, and told so
abbrev pub served_plan : Told → Option (List ℕ) → Names → Plan Fault Gathered
served_plan told load names = do
  input ← reading_of names
  load_plan told load input

-- a workload is run, or its script is printed
abbrev pub workload_plan : ℕ → ℕ → ℕ → Bool → Plan Fault Task
workload_plan seed requests workers true = done (task.Print (workload_text seed requests))
workload_plan seed requests workers false = do
  input ← workload_reading seed requests workers
  done (task.Run input Summary)

abbrev pub check_plan : ProofNames → Plan Fault Task
check_plan names = do
  proof ← proof_reading_of names
  done (task.Check proof)

abbrev pub command_plan : Command → Plan Fault Gathered
command_plan (Run schema policy tables script load proofs workers budget orders) = served_plan (told_by proofs) load (record { schema = schema; policy = policy; tables = tables; script = script; workers = workers; budget = budget; orders = orders })
command_plan (Store schema policy tables script workers budget orders) = served_plan Templates None (record { schema = schema; policy = policy; tables = tables; script = script; workers = workers; budget = budget; orders = orders })
command_plan (Gen seed requests workers print) = gathered (workload_plan seed requests workers print)
command_plan (Check schema policy proof) = gathered (check_plan (record { schema = schema; policy = policy; proof = proof }))
command_plan (Audit schema policy tables script output) = gathered (audit_plan (given_names schema policy tables script) output)

abbrev pub plan_at : Result Command WordsFault → Plan Fault Gathered
plan_at (Err NoForm) = refuse Words
plan_at (Ok command) = command_plan command

-- the plan of the words
abbrev pub plan_of : List (List ℕ) → Plan Fault Gathered
plan_of words = plan_at (command_of words)
