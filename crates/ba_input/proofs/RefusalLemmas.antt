-- A reading refuses words and what was read, and never for a file that can't be read.
use Rattle.std.proofs.Common.{◌≡◌, ◌⊎◌, inl, inr, sym, subst, ℕ, List, [], ◌∷◌, ◌++◌, Bool, true, false, Option, Some, None, Result, Ok, Err, length, cond, nat_lt}
use Rattle.std.specs.Prelude.{⊤, unwrap_or}
use Rattle.std.specs.Option.{option_to_list}
use Rattle.ba_command.specs.Words.{command_of}
use Rattle.ba_command.specs.declared.command.Command.{Command}
use Rattle.ba_command.specs.declared.command.Command.TheVariants.{Run, Check, Gen, Store, Audit}
use Rattle.ba_command.specs.declared.command.WordsFault.{WordsFault}
use Rattle.ba_command.specs.declared.command.WordsFault.TheVariants.{NoForm}
use Rattle.ba_lex.specs.declared.token.LexFault.{LexFault}
use Rattle.ba_lex.specs.declared.token.LexFault.TheVariants as lex
use Rattle.ba_model.specs.Readings.{widened}
use Rattle.ba_model.specs.declared.check_schema.SchemaFault.{SchemaFault}
use Rattle.ba_model.specs.declared.check_schema.SchemaFault.TheVariants as tables
use Rattle.ba_model.specs.declared.limits.Counted.TheVariants.{FileBytes}
use Rattle.ba_model.specs.declared.policy.Policy.{Policy}
use Rattle.ba_model.specs.declared.schema.Schema.{Schema}
use Rattle.ba_model.specs.declared.schema.Table.{Table}
use Rattle.ba_model.specs.declared.value.Value.{Value}
use Rattle.ba_outside.specs.Seen.{FilesSeen}
use Rattle.ba_plan.specs.Follows.{Follows}
use Rattle.ba_plan.specs.Plan.{Plan, done, refuse, ask, found, ◌>>=◌}
use Rattle.ba_plan.specs.declared.stop.Stop.TheVariants.{Refused}
use Rattle.ba_policy.specs.Reading.{policy_of}
use Rattle.ba_policy.specs.declared.error.PolicyFault.{PolicyFault}
use Rattle.ba_policy.specs.declared.error.PolicyFault.TheVariants as policy_fault
use Rattle.ba_proof.specs.Reading.{proof_of}
use Rattle.ba_proof.specs.declared.fault.ProofFault.{ProofFault}
use Rattle.ba_proof.specs.declared.fault.ProofFault.TheVariants as proof_fault
use Rattle.ba_script.specs.Reading.{script_of}
use Rattle.ba_script.specs.declared.entry.Script.{Script}
use Rattle.ba_script.specs.declared.entry.ScriptEntry.{ScriptEntry}
use Rattle.ba_script.specs.declared.entry.ScriptEntry.TheVariants as said
use Rattle.ba_script.specs.declared.fault.ScriptFault.{ScriptFault}
use Rattle.ba_script.specs.declared.fault.ScriptFault.TheVariants.{BadLine, TooMany}
use Rattle.ba_sql_ddl.specs.Reading.{schema_of}
use Rattle.ba_sql_ddl.specs.declared.fault.DdlFault.{DdlFault}
use Rattle.ba_sql_ddl.specs.declared.fault.DdlFault.TheVariants as ddl
use Rattle.ba_store.specs.declared.fault.StoreFault.{StoreFault}
use Rattle.ba_store.specs.declared.fault.StoreFault.TheVariants as store
use Rattle.ba_tables.specs.Checked.{checked}
use Rattle.ba_tables.specs.TableFile.{rows_of_file}
use Rattle.ba_tables.specs.TableSet.{TableSet}
use Rattle.ba_tables.specs.declared.broken.TablesFault.{TablesFault}
use Rattle.ba_tables.specs.declared.broken.TablesFault.TheVariants.{KeyBroken, LinkBroken, RuleBroken}
use Rattle.ba_tables.specs.declared.fault.TableFault.{TableFault}
use Rattle.ba_tables.specs.declared.fault.TableFault.TheVariants as table_fault
use Rattle.ba_input.proofs.ReadsLemmas.{OfTemplates, stopped}
use Rattle.ba_input.specs.Path.{path_of}
use Rattle.ba_input.specs.Reading.{Names, ProofNames, audit_plan, check_plan, command_plan, file_of, gathered, given_names, load_plan, output_plan, over, plan_at, plan_of, policy_and_proof_plan, policy_plan, proof_plan, proof_reading_of, published_plan, reading_of, ready, rest_plan, rows_plan, script_plan, served_plan, set_plan, sets_plan, table_plan, tables_plan, told_by, workload_names, workload_plan, workload_reading}
use Rattle.ba_input.specs.Reads.{Reads}
use Rattle.ba_input.specs.Refusals.{broken_refusal, ddl_refusal, lex_fault, policy_refusal, proof_refusal, schema_fault, script_refusal, table_refusal, template_refusal}
use Rattle.ba_input.specs.Stops.{IsRefusal}
use Rattle.ba_input.specs.declared.input.Input.{Input}
use Rattle.ba_input.specs.declared.task.Task.{Task}
use Rattle.ba_input.specs.declared.task.Task.TheVariants as task
use Rattle.ba_input.specs.declared.task.Told.{Told}
use Rattle.ba_input.specs.declared.task.Told.TheVariants.{Summary, Templates}
use Rattle.ba_workload.specs.Files.{bytes_in, files_of}
use Rattle.ba_wire.specs.declared.fault.Fault.{Fault}
use Rattle.ba_wire.specs.declared.fault.Fault.TheVariants as fault

-- what the plan refuses with is a refusal
abbrev Refuses : {X : Type 0} → Plan Fault X → Type 0
Refuses (done x) = ⊤
Refuses (refuse e) = IsRefusal e
Refuses (ask name limit next) = (bytes : List ℕ) → Refuses (next bytes)

-- one plan and then another
then_refuses : {A B : Type 0} (p : Plan Fault A) (f : A → Plan Fault B) → Refuses p → ((x : A) → Refuses (f x)) → Refuses (p >>= f)
then_refuses (done x) f h k = k x
then_refuses (refuse e) f h k = h
then_refuses (ask name limit next) f h k = λ bytes. then_refuses (next bytes) f (h bytes) k

-- a reading whose faults are told as refusals
found_refuses : {X F : Type 0} (into : F → Fault) (r : Result X F) → ((e : F) → IsRefusal (into e)) → Refuses (found (widened into r))
found_refuses into (Ok x) h = tt
found_refuses into (Err e) h = h e

-- a file, and what is read of it
file_refuses : {B : Type 0} (name : List ℕ) (f : List ℕ → Plan Fault B) → ((bytes : List ℕ) → Refuses (f bytes)) → Refuses (file_of name >>= f)
file_refuses name f k = k

-- a refusal that was followed is one of the plan
refused_one : {X : Type 0} (p : Plan Fault X) (f g : FilesSeen) (e : Fault) → Refuses p → Follows p f g (Err (Refused e)) → IsRefusal e
refused_one (done x) f g e h (is, same) = absurd (cc)
refused_one (refuse other) f g e h (is, same) = let same_fault : other ≡ e = cc in subst IsRefusal same_fault h
refused_one (ask name limit next) f g e h (inl missed) = absurd missed
refused_one (ask name limit next) f g e h (inr (bytes, mid, got, goes)) = refused_one (next bytes) mid g e (h bytes) goes

-- ---- faults of files

lex_is : (file : List ℕ) (e : LexFault) → IsRefusal (lex_fault file e)
lex_is file lex.TooLong = tt
lex_is file lex.BadByte = tt
lex_is file lex.OpenQuote = tt
lex_is file lex.NumberTooLarge = tt

schema_is : (file : List ℕ) (e : SchemaFault) → IsRefusal (schema_fault file e)
schema_is file tables.DuplicateTable = tt
schema_is file tables.DuplicateColumn = tt
schema_is file tables.UnknownTable = tt
schema_is file tables.UnknownColumn = tt
schema_is file tables.WidthDiffers = tt
schema_is file tables.KindDiffers = tt
schema_is file tables.EmptyKey = tt
schema_is file (tables.TooMany it limit) = tt
schema_is file (tables.Rule rule it) = tt

ddl_is : (file : List ℕ) (e : DdlFault) → IsRefusal (ddl_refusal file e)
unfolding ddl_refusal
ddl_is file (ddl.Lex it) = lex_is file it
ddl_is file (ddl.Unsupported word) = tt
ddl_is file ddl.Syntax = tt
ddl_is file (ddl.Schema it) = schema_is file it
ddl_is file (ddl.TooMany it limit) = tt
ddl_is file (ddl.Rule rule it) = tt

policy_is : (file : List ℕ) (e : PolicyFault) → IsRefusal (policy_refusal file e)
unfolding policy_refusal
policy_is file (policy_fault.Lex it) = lex_is file it
policy_is file policy_fault.Syntax = tt
policy_is file (policy_fault.DuplicateParam name) = tt
policy_is file (policy_fault.DuplicateView name) = tt
policy_is file (policy_fault.View name it) = tt
policy_is file (policy_fault.DuplicateKey name) = tt
policy_is file (policy_fault.Key name it) = tt
policy_is file (policy_fault.TooMany it limit) = tt

table_is : (file : List ℕ) (e : TableFault) → IsRefusal (table_refusal file e)
unfolding table_refusal
table_is file table_fault.BadHeader = tt
table_is file (table_fault.BadWidth row) = tt
table_is file (table_fault.BadUtf8 row) = tt
table_is file (table_fault.BadNumber row column) = tt
table_is file (table_fault.TooMany limit) = tt

broken_is : (set : List ℕ) (schema : Schema) (e : TablesFault) → IsRefusal (broken_refusal set schema e)
unfolding broken_refusal
broken_is set schema (KeyBroken it key first second) = tt
broken_is set schema (LinkBroken it link row) = tt
broken_is set schema (RuleBroken rule row) = tt

script_is : (file : List ℕ) (e : ScriptFault) → IsRefusal (script_refusal file e)
unfolding script_refusal
script_is file (BadLine line it) = tt
script_is file (TooMany it limit) = tt

proof_is : (file : List ℕ) (e : ProofFault) → IsRefusal (proof_refusal file e)
unfolding proof_refusal
proof_is file proof_fault.BadJson = tt
proof_is file proof_fault.TooLong = tt
proof_is file (proof_fault.BadField field) = tt

template_is : (file : List ℕ) (e : StoreFault) → IsRefusal (template_refusal file e)
unfolding template_refusal
template_is file (store.TooMany limit) = tt
template_is file (store.Json line) = tt
template_is file (store.Field line field) = tt
template_is file (store.NotShown line step it) = tt
template_is file (store.StillOpen line branches) = tt

-- ---- a run

table_refuses : (set : List ℕ) (table : Table) → Refuses (table_plan set table)
table_refuses set table = λ bytes. found_refuses (table_refusal (path_of set table.name)) (rows_of_file table bytes) (table_is (path_of set table.name))

rows_refuses : (set : List ℕ) (tables : List Table) (lists : List (List (List Value))) → Refuses (rows_plan set tables lists)
rows_refuses set [] lists = tt
rows_refuses set (table ∷ more) lists =
    then_refuses (table_plan set table) (λ list. rows_plan set more (lists ++ list ∷ [])) (table_refuses set table) (λ list. rows_refuses set more (lists ++ list ∷ []))

tables_refuses : (set : List ℕ) (schema : Schema) → Refuses (tables_plan set schema)
tables_refuses set schema =
    then_refuses (rows_plan set schema.tables []) (λ lists. found (widened (broken_refusal set schema) (checked schema (record { tables = lists })))) (rows_refuses set schema.tables [])
    (λ lists. found_refuses (broken_refusal set schema) (checked schema (record { tables = lists })) (broken_is set schema))

set_refuses : (schema : Schema) (entry : ScriptEntry) → Refuses (set_plan schema entry)
set_refuses schema (said.Begin request name context) = tt
set_refuses schema (said.Ask request name text) = tt
set_refuses schema (said.Read request name key arguments questions) = tt
set_refuses schema (said.End request name) = tt
set_refuses schema (said.Publish number set) = then_refuses (tables_plan set schema) (λ it. done (Some it)) (tables_refuses set schema) (λ it. tt)

sets_refuses : (schema : Schema) (entries : List ScriptEntry) (sets : List TableSet) → Refuses (sets_plan schema entries sets)
sets_refuses schema [] sets = tt
sets_refuses schema (entry ∷ entries) sets =
    then_refuses (set_plan schema entry) (λ set. sets_plan schema entries (sets ++ option_to_list set)) (set_refuses schema entry) (λ set. sets_refuses schema entries (sets ++ option_to_list set))

published_refuses : (names : Names) (policy : Policy) (tables : TableSet) (script : Script) → Refuses (published_plan names policy tables script)
published_refuses names policy tables script =
    then_refuses (sets_plan policy.schema script.entries []) (λ sets. done (record { policy = policy; tables = tables; script = script; published = sets; workers = names.workers; budget = names.budget; loaded = []; orders = names.orders }))
    (sets_refuses policy.schema script.entries []) (λ sets. tt)

script_refuses : (names : Names) (policy : Policy) (tables : TableSet) → Refuses (script_plan names policy tables)
script_refuses names policy tables = λ bytes.
    then_refuses (found (widened (script_refusal names.script) (script_of policy.params policy.keys bytes))) (published_plan names policy tables) (found_refuses (script_refusal names.script) (script_of policy.params policy.keys bytes) (script_is names.script))
    (published_refuses names policy tables)

rest_refuses : (names : Names) (schema : Schema) (policy : Policy) → Refuses (rest_plan names schema policy)
rest_refuses names schema policy =
    then_refuses (tables_plan names.tables schema) (script_plan names policy) (tables_refuses names.tables schema) (script_refuses names policy)

policy_refuses : (names : Names) (schema : Schema) → Refuses (policy_plan names schema)
policy_refuses names schema = λ bytes.
    then_refuses (found (widened (policy_refusal names.policy) (policy_of schema bytes))) (rest_plan names schema) (found_refuses (policy_refusal names.policy) (policy_of schema bytes) (policy_is names.policy)) (rest_refuses names schema)

reading_refuses : (names : Names) → Refuses (reading_of names)
reading_refuses names = λ bytes.
    then_refuses (found (widened (ddl_refusal names.schema) (schema_of bytes))) (policy_plan names) (found_refuses (ddl_refusal names.schema) (schema_of bytes) (ddl_is names.schema)) (policy_refuses names)

-- ---- a workload

over_refuses : {X : Type 0} (bytes : List ℕ → List ℕ) (p : Plan Fault X) → Refuses p → Refuses (over bytes p)
over_refuses bytes (done x) h = tt
over_refuses bytes (refuse e) h = h
over_refuses bytes (ask name limit next) h = by (over_refuses bytes (next (bytes name)) (h (bytes name))) (nat_lt limit (length (bytes name)))
  where
    by : Refuses (over bytes (next (bytes name))) → (t : Bool) → Refuses (cond t (refuse (fault.Limit FileBytes limit)) (over bytes (next (bytes name))))
    by rest true = tt
    by rest false = rest

workload_refuses : (seed requests workers : ℕ) (print : Bool) → Refuses (workload_plan seed requests workers print)
unfolding workload_reading
workload_refuses seed requests workers true = tt
workload_refuses seed requests workers false = then_refuses (workload_reading seed requests workers) (λ input. done (task.Run input Summary)) (over_refuses (λ name. unwrap_or (bytes_in (files_of seed requests) name) []) (reading_of (workload_names workers)) (reading_refuses (workload_names workers))) (λ input. tt)

-- ---- the commands

proof_refuses : (names : ProofNames) → Refuses (proof_reading_of names)
proof_refuses names = λ bytes.
    then_refuses (found (widened (ddl_refusal names.schema) (schema_of bytes))) (policy_and_proof_plan names) (found_refuses (ddl_refusal names.schema) (schema_of bytes) (ddl_is names.schema))
    (λ schema text.
    then_refuses (found (widened (policy_refusal names.policy) (policy_of schema text))) (proof_plan names.proof) (found_refuses (policy_refusal names.policy) (policy_of schema text) (policy_is names.policy))
    (λ policy it. found_refuses (proof_refusal names.proof) (proof_of policy it) (proof_is names.proof)))

load_refuses : (told : Told) (load : Option (List ℕ)) (input : Input) → Refuses (load_plan told load input)
load_refuses told None input = tt
load_refuses told (Some file) input = λ bytes. tt

served_refuses : (told : Told) (load : Option (List ℕ)) (names : Names) → Refuses (served_plan told load names)
served_refuses told load names = then_refuses (reading_of names) (load_plan told load) (reading_refuses names) (load_refuses told load)

gathered_refuses : (plan : Plan Fault Task) → Refuses plan → Refuses (gathered plan)
gathered_refuses plan h = then_refuses plan (λ it. done (ready it)) h (λ it. tt)

check_refuses : (names : ProofNames) → Refuses (check_plan names)
check_refuses names = then_refuses (proof_reading_of names) (λ it. done (task.Check it)) (proof_refuses names) (λ it. tt)

audit_refuses : (names : Names) (output : List ℕ) → Refuses (audit_plan names output)
audit_refuses names output = then_refuses (reading_of names) (output_plan output) (reading_refuses names) (λ input bytes. tt)

command_refuses : (command : Command) → Refuses (command_plan command)
command_refuses (Run schema policy tables script load proofs workers budget orders) = served_refuses (told_by proofs) load (record { schema = schema; policy = policy; tables = tables; script = script; workers = workers; budget = budget; orders = orders })
command_refuses (Store schema policy tables script workers budget orders) = served_refuses Templates None (record { schema = schema; policy = policy; tables = tables; script = script; workers = workers; budget = budget; orders = orders })
command_refuses (Gen seed requests workers print) = gathered_refuses (workload_plan seed requests workers print) (workload_refuses seed requests workers print)
command_refuses (Check schema policy proof) =
    let names : ProofNames = record { schema = schema; policy = policy; proof = proof } in
    gathered_refuses (check_plan names) (check_refuses names)
command_refuses (Audit schema policy tables script output) =
    let names : Names = given_names schema policy tables script in
    gathered_refuses (audit_plan names output) (audit_refuses names output)

plan_refuses : (command : Result Command WordsFault) → Refuses (plan_at command)
plan_refuses (Err NoForm) = tt
plan_refuses (Ok command) = command_refuses command

-- what the words or the files are refused with isn't that a file can't be read
pub refused_is : (words : List (List ℕ)) (f g : FilesSeen) (e : Fault) → Reads words f g (Err (Refused e)) → IsRefusal e
refused_is words f g e reads = by (stopped (plan_of words) f g (Refused e) reads.gave reads.follows reads.becomes)
  where
    by : Follows (plan_of words) f g (Err (Refused e)) ⊎ OfTemplates (Refused e) → IsRefusal e
    by (inl follows) = refused_one (plan_of words) f g e (plan_refuses (command_of words)) follows
    by (inr (file, why, is)) = subst IsRefusal (sym is) (template_is file why)
