-- A workload's files are read as what they are, and none is refused.
use Rattle.std.proofs.Common.{◌≡◌, ◌∙◌, ℕ, zero, suc, ◌+◌, ◌≤◌, Bool, true, false, true≢false, cond, nat_lt, List, [], ◌∷◌, length, Result, Ok, refl, sym, ap, unwrap_or, codes}
use Rattle.ba_input.specs.Path.{path_of}
use Rattle.ba_input.specs.Reading.{file_of, over, policy_plan, published_plan, reading_of, rest_plan, rows_plan, script_plan, sets_plan, table_plan, tables_plan, workload_names, workload_reading}
use Rattle.ba_input.specs.Refusals.{broken_refusal, ddl_refusal, policy_refusal, script_refusal, table_refusal}
use Rattle.ba_model.specs.Limits.{most_file_bytes, most_requests}
use Rattle.ba_model.specs.Readings.{widened}
use Rattle.ba_model.specs.declared.limits.Counted.TheVariants.{FileBytes}
use Rattle.ba_model.specs.declared.schema.Table.{Table}
use Rattle.ba_model.specs.declared.value.Value.{Value}
use Rattle.ba_plan.specs.Plan.{Plan, done, refuse, ask, found, ◌>>=◌}
use Rattle.ba_policy.specs.Reading.{policy_of}
use Rattle.ba_script.specs.Reading.{script_of}
use Rattle.ba_sql_ddl.specs.Reading.{schema_of}
use Rattle.ba_tables.specs.Checked.{checked}
use Rattle.ba_tables.specs.TableFile.{rows_of_file}
use Rattle.ba_wire.specs.declared.fault.Fault.{Fault}
use Rattle.ba_wire.specs.declared.fault.Fault.TheVariants.{Limit}
use Rattle.ba_workload.specs.Files.{bytes_in, files_of, workload_text}
use Rattle.ba_workload.specs.Lists.{all_of}
use Rattle.ba_workload.specs.Script.{entries_of, script}
use Rattle.ba_workload.specs.Standard.{attendances_table, events_table, params, policy_text, schema, schema_text, users_table}
use Rattle.ba_workload.specs.Tables.{attendance_rows, attendances_text, event_rows, events_text, tables, user_rows, users_text}
use Rattle.ba_workload.proofs.EntryLemmas.{reads_back}
use Rattle.ba_workload.proofs.TableLemmas.{tables_read}
use Rattle.ba_workload_laws.proofs.ConformLemmas.{tables_conform}
use Rattle.ba_workload_laws.proofs.LengthLemmas.{attendances_short, events_short, script_is_short, users_short}
use Rattle.ba_workload_laws.proofs.PolicyLemmas.{policy_reads}
use Rattle.ba_workload_laws.proofs.SchemaLemmas.{schema_reads}
use Rattle.ba_workload_laws.specs.Ends.{WorkloadIsRead, input_of}
use Rattle.ba_workload_laws.specs.Reads.{policy}

-- ---- plans over files that are given

abbrev is_done : {X : Type 0} → Plan Fault X → Bool
is_done (done x) = true
is_done _ = false

abbrev done_or : {X : Type 0} → X → Plan Fault X → X
done_or other (done x) = x
done_or other _ = other

abbrev refusal_of : {X : Type 0} → Fault → Plan Fault X
refusal_of e = refuse e

refused : {X : Type 0} (e : Fault) (x : X) → refusal_of e ≡ done x → ⊥
refused e x is = true≢false (sym (ap is_done is))

-- one plan and then another: what the first comes to
by_test : {A B : Type 0} (f : List ℕ → List ℕ) (k : List ℕ → Plan Fault A) (next : A → Plan Fault B) (x : A) (name : List ℕ) (limit : ℕ) (b : Bool)
    → (over f (k (f name)) ≡ done x → over f (k (f name) >>= next) ≡ over f (next x))
    → cond b (refuse (Limit FileBytes limit)) (over f (k (f name))) ≡ done x → cond b (refuse (Limit FileBytes limit)) (over f (k (f name) >>= next)) ≡ over f (next x)
by_test f k next x name limit false go e = go e
by_test f k next x name limit true go e = absurd (refused (Limit FileBytes limit) x e)

over_then : {A B : Type 0} (f : List ℕ → List ℕ) (p : Plan Fault A) (next : A → Plan Fault B) (x : A) → over f p ≡ done x → over f (p >>= next) ≡ over f (next x)
over_then f (done y) next x is = ap (λ z. over f (next z)) (ap (done_or y) is)
over_then f (refuse e) next x is = absurd (refused e x is)
over_then f (ask name limit k) next x is = by_test f k next x name limit (nat_lt limit (length (f name))) (over_then f (k (f name)) next x) is

file_read : (f : List ℕ → List ℕ) (name : List ℕ) → nat_lt most_file_bytes (length (f name)) ≡ false → over f (file_of name) ≡ done (f name)
file_read f name few = ap (λ b. cond b (refuse (Limit FileBytes most_file_bytes)) (done (f name))) few

-- a file, and what its bytes read as
text_read : {A B E : Type 0} (f : List ℕ → List ℕ) (name : List ℕ) (reads : List ℕ → Result A E) (refusal : E → Fault) (next : A → Plan Fault B) (x : A)
    → nat_lt most_file_bytes (length (f name)) ≡ false → reads (f name) ≡ Ok x
    → over f (file_of name >>= (λ bytes. found (widened refusal (reads bytes)) >>= next)) ≡ over f (next x)
text_read f name reads refusal next x few is =
    over_then f (file_of name) (λ bytes. found (widened refusal (reads bytes)) >>= next) (f name) (file_read f name few)
    ∙ ap (λ r. over f (found (widened refusal r) >>= next)) is

-- ---- a workload's files

bytes_at : ℕ → ℕ → List ℕ → List ℕ
bytes_at seed requests name = unwrap_or (bytes_in (files_of seed requests) name) []

at_schema : (seed requests : ℕ) → bytes_at seed requests (codes "schema.sql") ≡ schema_text
unfolding bytes_at
at_schema seed requests = refl

at_policy : (seed requests : ℕ) → bytes_at seed requests (codes "policy.sql") ≡ policy_text
unfolding bytes_at
at_policy seed requests = refl

at_users : (seed requests : ℕ) → bytes_at seed requests (path_of (codes "tables") (codes "Users")) ≡ users_text
unfolding bytes_at path_of
at_users seed requests = refl

at_events : (seed requests : ℕ) → bytes_at seed requests (path_of (codes "tables") (codes "Events")) ≡ events_text
unfolding bytes_at path_of
at_events seed requests = refl

at_attendances : (seed requests : ℕ) → bytes_at seed requests (path_of (codes "tables") (codes "Attendances")) ≡ attendances_text
unfolding bytes_at path_of
at_attendances seed requests = refl

at_script : (seed requests : ℕ) → bytes_at seed requests (codes "script.jsonl") ≡ workload_text seed requests
unfolding bytes_at
at_script seed requests = refl

-- ---- how long they are

abbrev IsShort : List ℕ → Type 0
IsShort text = nat_lt most_file_bytes (length text) ≡ false

schema_short : IsShort schema_text
unfolding schema_text
schema_short = refl

policy_short : IsShort policy_text
unfolding policy_text
policy_short = refl

moved : (f : List ℕ → List ℕ) (name text : List ℕ) → f name ≡ text → IsShort text → nat_lt most_file_bytes (length (f name)) ≡ false
moved f name text is short = ap (λ t. nat_lt most_file_bytes (length t)) is ∙ short

-- ---- the tables

table_at : (f : List ℕ → List ℕ) (set text : List ℕ) (table : Table) (rows : List (List Value)) → f (path_of set table.name) ≡ text → IsShort text → rows_of_file table text ≡ Ok rows → over f (table_plan set table) ≡ done rows
table_at f set text table rows is short reads =
    let path = path_of set table.name in
    over_then f (file_of path) (λ bytes. found (widened (table_refusal path) (rows_of_file table bytes))) (f path) (file_read f path (moved f path text is short))
    ∙ ap (λ t. over f (found (widened (table_refusal path) (rows_of_file table t)))) is
    ∙ ap (λ r. over f (found (widened (table_refusal path) r))) reads

rows_at : (seed requests : ℕ) → over (bytes_at seed requests) (rows_plan (codes "tables") schema.tables []) ≡ done tables.tables
rows_at seed requests =
    let f = bytes_at seed requests in
    let set = codes "tables" in
    over_then f (table_plan set users_table) (λ list. rows_plan set (events_table ∷ attendances_table ∷ []) (list ∷ [])) user_rows (table_at f set users_text users_table user_rows (at_users seed requests) users_short tables_read.users)
    ∙ over_then f (table_plan set events_table) (λ list. rows_plan set (attendances_table ∷ []) (user_rows ∷ list ∷ [])) event_rows (table_at f set events_text events_table event_rows (at_events seed requests) events_short tables_read.events)
    ∙ over_then f (table_plan set attendances_table) (λ list. rows_plan set [] (user_rows ∷ event_rows ∷ list ∷ [])) attendance_rows (table_at f set attendances_text attendances_table attendance_rows (at_attendances seed requests) attendances_short tables_read.attendances)

tables_at : (seed requests : ℕ) → over (bytes_at seed requests) (tables_plan (codes "tables") schema) ≡ done (record { schema = schema; rows = tables })
tables_at seed requests =
    let f = bytes_at seed requests in
    let set = codes "tables" in
    over_then f (rows_plan set schema.tables []) (λ lists. found (widened (broken_refusal set schema) (checked schema (record { tables = lists })))) tables.tables (rows_at seed requests)
    ∙ ap (λ r. over f (found (widened (broken_refusal set schema) r))) tables_conform

-- ---- the script

publishes_none : (seed k n : ℕ) → sets_plan schema (all_of (entries_of seed) k n) [] ≡ done []
unfolding all_of
publishes_none seed k zero = refl
publishes_none seed k (suc n) = publishes_none seed (k + 1) n

script_at : (seed requests workers : ℕ) → requests ≤ most_requests → over (bytes_at seed requests) (script_plan (workload_names workers) policy (record { schema = schema; rows = tables })) ≡ done (input_of seed requests workers)
script_at seed requests workers few =
    let f = bytes_at seed requests in
    let names = workload_names workers in
    let it = script seed requests in
    let reads = ap (script_of params []) (at_script seed requests) ∙ reads_back seed requests few in
    text_read f (codes "script.jsonl") (script_of params []) (script_refusal (codes "script.jsonl")) (published_plan names policy (record { schema = schema; rows = tables })) it
    (ap (λ t. nat_lt most_file_bytes (length t)) (at_script seed requests) ∙ script_is_short seed requests few) reads
    ∙ ap (λ p. over f (p >>= (λ published. done (record { policy = policy; tables = record { schema = schema; rows = tables }; script = it; published = published; workers = names.workers; budget = names.budget; loaded = []; orders = names.orders })))) (publishes_none seed 0 requests)

-- ---- all of it

reading_at : (seed requests workers : ℕ) → requests ≤ most_requests → over (bytes_at seed requests) (reading_of (workload_names workers)) ≡ done (input_of seed requests workers)
reading_at seed requests workers few =
    let f = bytes_at seed requests in
    let names = workload_names workers in
    text_read f (codes "schema.sql") schema_of (ddl_refusal (codes "schema.sql")) (policy_plan names) schema (moved f (codes "schema.sql") schema_text (at_schema seed requests) schema_short) (ap schema_of (at_schema seed requests) ∙ schema_reads)
    ∙ text_read f (codes "policy.sql") (policy_of schema) (policy_refusal (codes "policy.sql")) (rest_plan names schema) policy (moved f (codes "policy.sql") policy_text (at_policy seed requests) policy_short) (ap (policy_of schema) (at_policy seed requests) ∙ policy_reads)
    ∙ over_then f (tables_plan names.tables schema) (script_plan names policy) (record { schema = schema; rows = tables }) (tables_at seed requests)
    ∙ script_at seed requests workers few

pub workload_reads : WorkloadIsRead
unfolding workload_reading bytes_at
workload_reads seed requests workers few = reading_at seed requests workers few
