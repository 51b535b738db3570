-- How the input is read, stage by stage.
use Rattle.std.proofs.Common.{Bool, false, ◌≡◌, ◌∙◌, ◌<◌, ◌+◌, [], ◌∷◌, ◌++◌, inl, inr, refl, sym, ap, subst, ℕ, suc, List, Result, Ok, Err, length, drop, take, get_or, add-one, drop-cons, Option, Some, None, length-append, arith}
use Rattle.std.proofs.lemmas.List.{take_more}
use Rattle.std.proofs.lemmas.List.Elements.{All-append, All-cons, All-nil}
use Rattle.std.specs.List.{All, AllZip}
use Rattle.std.specs.Option.{option_to_list}
use Rattle.std.specs.Prelude.{IfSome}
use Rattle.ba_model.specs.RuleFaults.{AreRules}
use Rattle.ba_proof.specs.Checked.{IsPolicy}
use Rattle.ba_proof.specs.declared.proof.Proof.{Proof}
use Rattle.ba_model.specs.SchemaFaults.{AreTables}
use Rattle.ba_kernel.specs.SearchStates as kernel
use Rattle.ba_command.specs.Words.{command_of}
use Rattle.ba_command.specs.declared.command.Command.{Command}
use Rattle.ba_command.specs.declared.command.Command.TheVariants.{Audit, Check, Run, Store}
use Rattle.ba_command.specs.declared.command.WordsFault.{WordsFault}
use Rattle.ba_command.specs.declared.command.WordsFault.TheVariants.{NoForm}
use Rattle.ba_model.specs.Conform.{RowFits}
use Rattle.ba_model.specs.Fit.{PolicyFits}
use Rattle.ba_model.specs.Readings.{Fails, widened}
use Rattle.ba_model.specs.declared.failure.Failure.{Failure}
use Rattle.ba_model.specs.declared.failure.Failure.TheVariants.{Fault as FailedBy}
use Rattle.ba_model.specs.declared.policy.Policy.{Policy}
use Rattle.ba_model.specs.declared.schema.Schema.{Schema}
use Rattle.ba_model.specs.declared.schema.Table.{Table}
use Rattle.ba_model.specs.declared.value.Value.{Value}
use Rattle.ba_model.specs.Limits.{most_file_bytes}
use Rattle.ba_outside.specs.Seen.{FilesSeen}
use Rattle.ba_plan.proofs.Plans.{found_ok, memory_now, then_err, then_ok}
use Rattle.ba_plan.specs.Follows.{Follows, Gives, Got}
use Rattle.ba_plan.specs.Plan.{Plan, done, found}
use Rattle.ba_plan.specs.declared.stop.Stop.{Stop}
use Rattle.ba_plan.specs.declared.stop.Stop.TheVariants.{NoMemory, Refused}
use Rattle.ba_policy.specs.Reading.{policy_of}
use Rattle.ba_script.proofs.TrackingLemmas.{published-push}
use Rattle.ba_script.specs.Reading.{published, published_by}
use Rattle.ba_script.specs.declared.entry.Script.{Script}
use Rattle.ba_script.specs.declared.entry.ScriptEntry.{ScriptEntry}
use Rattle.ba_script.specs.declared.entry.ScriptEntry.TheVariants as said
use Rattle.ba_sql_ddl.specs.Reading.{schema_of}
use Rattle.ba_tables.specs.Checked.{checked}
use Rattle.ba_tables.specs.TableSet.{TableSet}
use Rattle.ba_input.specs.Inputs.{RowsOfTables}
use Rattle.ba_input.specs.Published.{IsSetOf}
use Rattle.ba_input.specs.Reading.{Gathered, Names, ProofNames, audit_plan, check_plan, command_plan, gathered, given_names, load_plan, loading, output_plan, plan_at, policy_and_proof_plan, policy_plan, proof_plan, proof_reading_of, published_plan, reading_of, ready, rest_plan, rows_plan, script_plan, served_plan, set_plan, sets_plan, table_plan, tables_plan, told_by, workload_plan, workload_reading}
use Rattle.ba_input.specs.Reads.{Comes, Finds, Reads, run_with}
use Rattle.ba_input.specs.Refusals.{broken_refusal, ddl_refusal, policy_refusal}
use Rattle.ba_input.specs.declared.input.Input.{Input}
use Rattle.ba_wire.specs.declared.fault.Fault.{Fault}
use Rattle.ba_wire.specs.declared.fault.Fault.TheVariants.{Words}
use Rattle.ba_input.specs.declared.task.Task.{Task}
use Rattle.ba_input.specs.declared.task.Task.TheVariants as task
use Rattle.ba_input.specs.declared.task.Told.{Told}
use Rattle.ba_input.specs.declared.task.Told.TheVariants.{Summary, Templates}

zip_end : {A B : Type 0} (R : A → B → Type 0) (xs : List A) (ys : List B) (x : A) (y : B) → AllZip R xs ys → R x y → AllZip R (xs ++ x ∷ []) (ys ++ y ∷ [])
zip_end R [] [] x y h last = (last, tt)
zip_end R [] (b ∷ bs) x y h last = absurd h
zip_end R (a ∷ xs) [] x y h last = absurd h
zip_end R (a ∷ xs) (b ∷ ys) x y h last = (h.0, zip_end R xs ys x y h.1 last)

-- the rows of one more table
pub fit_more : (tables : List Table) (lists : List (List (List Value))) (i : ℕ) (table : Table) (list : List (List Value)) → i < length tables → table ≡ get_or tables i table → RowsOfTables (take i tables) lists → All (RowFits table) list → RowsOfTables (take (i + 1) tables) (lists ++ list ∷ [])
fit_more tables lists i table list below is fit rows =
    subst (λ z. RowsOfTables z (lists ++ list ∷ [])) (sym (take_more tables i table below ∙ ap (λ z. take i tables ++ z ∷ []) (sym is)))
    (zip_end (λ t rs. All (RowFits t) rs) (take i tables) lists table list fit rows)

-- the next table, and then those behind it
pub rows_step : (set : List ℕ) (tables : List Table) (lists : List (List (List Value))) (i : ℕ) (table : Table) (s m t : FilesSeen) (r : Result (List (List (List Value))) (Stop Fault)) (list : List (List Value)) → i < length tables → table ≡ get_or tables i table → Follows (table_plan set table) s m (Ok list)
    → Follows (rows_plan set (drop (i + 1) tables) (lists ++ list ∷ [])) m t r → Follows (rows_plan set (drop i tables) lists) s t r
rows_step set tables lists i table s m t r list below is one rest =
    subst (λ z. Follows (rows_plan set z lists) s t r) (sym (drop-cons tables i table below ∙ ap (λ z. z ∷ drop (suc i) tables) (sym is)))
    (then_ok (table_plan set table) (λ z. rows_plan set (drop (suc i) tables) (lists ++ z ∷ [])) s m t list r one
    (subst (λ z. Follows (rows_plan set (drop z tables) (lists ++ list ∷ [])) m t r) (add-one i) rest))

-- a reading of what was read
found_gives : {X : Type 0} (x : Result X Fault) (s : FilesSeen) (r : Result X (Stop Fault)) → Gives r x → Follows (found x) s s r
found_gives (Ok x) s r h = (h, refl)
found_gives (Err e) s r h = (h, refl)

-- the rows of all tables, and then what their keys and links come to
pub tables_ok : (set : List ℕ) (schema : Schema) (lists : List (List (List Value))) (s t : FilesSeen) (r : Result TableSet (Stop Fault)) → Follows (rows_plan set schema.tables []) s t (Ok lists)
    → Gives r (widened (broken_refusal set schema) (checked schema (record { tables = lists }))) → Follows (tables_plan set schema) s t r
tables_ok set schema lists s t r rows is =
    then_ok (rows_plan set schema.tables []) (λ z. found (widened (broken_refusal set schema) (checked schema (record { tables = z })))) s t t lists r rows
    (found_gives (widened (broken_refusal set schema) (checked schema (record { tables = lists }))) t r is)

pub tables_err : (set : List ℕ) (schema : Schema) (s t : FilesSeen) (e : Stop Fault) → Follows (rows_plan set schema.tables []) s t (Err e) → Follows (tables_plan set schema) s t (Err e)
tables_err set schema s t e rows =
    then_err (rows_plan set schema.tables []) (λ z. found (widened (broken_refusal set schema) (checked schema (record { tables = z })))) s t e rows

-- ---- the table sets that a script publishes

-- the line publishes a set
pub set_ok : (name set : List ℕ) (number : ℕ) (schema : Schema) (entry : ScriptEntry) (tables : TableSet) (s t : FilesSeen) → entry ≡ said.Publish number set → name ≡ set → Follows (tables_plan name schema) s t (Ok tables)
    → Follows (set_plan schema entry) s t (Ok (Some tables))
set_ok name set number schema entry tables s t is same follows =
    subst (λ z. Follows (set_plan schema z) s t (Ok (Some tables))) (sym is)
    (then_ok (tables_plan set schema) (λ z. done (Some z)) s t t tables (Ok (Some tables)) (subst (λ z. Follows (tables_plan z schema) s t (Ok tables)) same follows) (refl, refl))

pub set_err : (name set : List ℕ) (number : ℕ) (schema : Schema) (entry : ScriptEntry) (s t : FilesSeen) (e : Stop Fault) → entry ≡ said.Publish number set → name ≡ set → Follows (tables_plan name schema) s t (Err e)
    → Follows (set_plan schema entry) s t (Err e)
set_err name set number schema entry s t e is same follows =
    subst (λ z. Follows (set_plan schema z) s t (Err e)) (sym is)
    (then_err (tables_plan set schema) (λ z. done (Some z)) s t e (subst (λ z. Follows (tables_plan z schema) s t (Err e)) same follows))

-- the next line's, and then those behind it
pub sets_step : (schema : Schema) (entries : List ScriptEntry) (sets more : List TableSet) (i : ℕ) (entry : ScriptEntry) (set : Option TableSet) (s m t : FilesSeen) (r : Result (List TableSet) (Stop Fault)) → i < length entries → entry ≡ get_or entries i entry → Follows (set_plan schema entry) s m (Ok set)
    → more ≡ sets ++ option_to_list set → Follows (sets_plan schema (drop (i + 1) entries) more) m t r → Follows (sets_plan schema (drop i entries) sets) s t r
sets_step schema entries sets more i entry set s m t r below is one kept rest =
    subst (λ z. Follows (sets_plan schema z sets) s t r) (sym (drop-cons entries i entry below ∙ ap (λ z. z ∷ drop (suc i) entries) (sym is)))
    (then_ok (set_plan schema entry) (λ z. sets_plan schema (drop (suc i) entries) (sets ++ option_to_list z)) s m t set r one
    (subst (λ z. Follows (sets_plan schema (drop z entries) (sets ++ option_to_list set)) m t r) (add-one i) (subst (λ z. Follows (sets_plan schema (drop (i + 1) entries) z) m t r) kept rest)))

-- the next line's set can't be read
pub sets_err : (schema : Schema) (entries : List ScriptEntry) (sets : List TableSet) (i : ℕ) (entry : ScriptEntry) (s t : FilesSeen) (e : Stop Fault) → i < length entries → entry ≡ get_or entries i entry → Follows (set_plan schema entry) s t (Err e)
    → Follows (sets_plan schema (drop i entries) sets) s t (Err e)
sets_err schema entries sets i entry s t e below is one =
    subst (λ z. Follows (sets_plan schema z sets) s t (Err e)) (sym (drop-cons entries i entry below ∙ ap (λ z. z ∷ drop (suc i) entries) (sym is)))
    (then_err (set_plan schema entry) (λ z. sets_plan schema (drop (suc i) entries) (sets ++ option_to_list z)) s t e one)

-- there is no memory to keep it
pub sets_memory : (schema : Schema) (entries : List ScriptEntry) (sets : List TableSet) (i : ℕ) (entry : ScriptEntry) (set : Option TableSet) (s t : FilesSeen) → i < length entries → entry ≡ get_or entries i entry → Follows (set_plan schema entry) s t (Ok set)
    → Follows (sets_plan schema (drop i entries) sets) s t (Err NoMemory)
sets_memory schema entries sets i entry set s t below is one =
    subst (λ z. Follows (sets_plan schema z sets) s t (Err NoMemory)) (sym (drop-cons entries i entry below ∙ ap (λ z. z ∷ drop (suc i) entries) (sym is)))
    (then_ok (set_plan schema entry) (λ z. sets_plan schema (drop (suc i) entries) (sets ++ option_to_list z)) s t t set (Err NoMemory) one
    (memory_now (sets_plan schema (drop (suc i) entries) (sets ++ option_to_list set)) t))

found_fits : (schema : Schema) (set : Option TableSet) → IfSome set (IsSetOf schema) → All (IsSetOf schema) (option_to_list set)
found_fits schema None h = All-nil (IsSetOf schema)
found_fits schema (Some tables) h = All-cons (IsSetOf schema) tables [] h (All-nil (IsSetOf schema))

pub sets_fit : (schema : Schema) (sets more : List TableSet) (set : Option TableSet) → All (IsSetOf schema) sets → IfSome set (IsSetOf schema) → more ≡ sets ++ option_to_list set → All (IsSetOf schema) more
sets_fit schema sets more set all h kept = subst (All (IsSetOf schema)) (sym kept) (All-append (IsSetOf schema) sets (option_to_list set) all (found_fits schema set h))

published_more : (n : ℕ) (entry : ScriptEntry) → published_by n entry ≡ n + published_by 0 entry
published_more n (said.Begin request name context) = omega arith
published_more n (said.Ask request name text) = omega arith
published_more n (said.Read request name key arguments questions) = omega arith
published_more n (said.End request name) = omega arith
published_more n (said.Publish number set) = omega arith

pub sets_count : (entries : List ScriptEntry) (sets more : List TableSet) (i : ℕ) (entry : ScriptEntry) (set : Option TableSet) → i < length entries → entry ≡ get_or entries i entry → length sets ≡ published (take i entries)
    → length (option_to_list set) ≡ published_by 0 entry → more ≡ sets ++ option_to_list set → length more ≡ published (take (i + 1) entries)
sets_count entries sets more i entry set below is before one kept =
    let front : take (i + 1) entries ≡ take i entries ++ entry ∷ [] = take_more entries i entry below ∙ ap (λ z. take i entries ++ z ∷ []) (sym is) in
    let whole : published (take (i + 1) entries) ≡ published_by (published (take i entries)) entry = ap published front ∙ published-push (take i entries) entry in
    omega (arith, ap length kept, length-append sets (option_to_list set), before, one, whole, published_more (published (take i entries)) entry)

-- all sets, and then the input
pub published_ok : (names : Names) (policy : Policy) (tables : TableSet) (script : Script) (schema : Schema) (entries : List ScriptEntry) (sets : List TableSet) (loaded : List kernel.Proof) (s t : FilesSeen) → schema ≡ policy.schema → entries ≡ script.entries → loaded ≡ []
    → Follows (sets_plan schema entries []) s t (Ok sets) → Follows (published_plan names policy tables script) s t (Ok (record { policy = policy; tables = tables; script = script; published = sets; workers = names.workers; budget = names.budget; loaded = loaded; orders = names.orders }))
published_ok names policy tables script schema entries sets loaded s t same is none follows =
    then_ok (sets_plan policy.schema script.entries []) (λ z. done (record { policy = policy; tables = tables; script = script; published = z; workers = names.workers; budget = names.budget; loaded = []; orders = names.orders })) s t t sets _
    (subst (λ z. Follows (sets_plan z script.entries []) s t (Ok sets)) same (subst (λ z. Follows (sets_plan schema z []) s t (Ok sets)) is follows))
    (ap (λ z. Ok (record { policy = policy; tables = tables; script = script; published = sets; workers = names.workers; budget = names.budget; loaded = z; orders = names.orders })) (sym none), refl)

pub published_err : (names : Names) (policy : Policy) (tables : TableSet) (script : Script) (schema : Schema) (entries : List ScriptEntry) (s t : FilesSeen) (e : Stop Fault) → schema ≡ policy.schema → entries ≡ script.entries
    → Follows (sets_plan schema entries []) s t (Err e) → Follows (published_plan names policy tables script) s t (Err e)
published_err names policy tables script schema entries s t e same is follows =
    then_err (sets_plan policy.schema script.entries []) (λ z. done (record { policy = policy; tables = tables; script = script; published = z; workers = names.workers; budget = names.budget; loaded = []; orders = names.orders })) s t e
    (subst (λ z. Follows (sets_plan z script.entries []) s t (Err e)) same (subst (λ z. Follows (sets_plan schema z []) s t (Err e)) is follows))

-- the schema, the policy, the tables, and then the rest
pub named_ok : (names : Names) (bytes text : List ℕ) (schema : Schema) (policy : Policy) (tables : TableSet) (s m n o t : FilesSeen) (r : Result Input (Stop Fault))
    → Got names.schema most_file_bytes bytes s m → widened (ddl_refusal names.schema) (schema_of bytes) ≡ Ok schema
    → Got names.policy most_file_bytes text m n → widened (policy_refusal names.policy) (policy_of schema text) ≡ Ok policy
    → Follows (tables_plan names.tables schema) n o (Ok tables) → Follows (script_plan names policy tables) o t r → Follows (reading_of names) s t r
named_ok names bytes text schema policy tables s m n o t r got read given is set rest = inr (
  bytes,
  m,
  got,
  found_ok (widened (ddl_refusal names.schema) (schema_of bytes)) (policy_plan names) m t r schema read
      (inr (
        text,
        n,
        given,
        found_ok (widened (policy_refusal names.policy) (policy_of schema text)) (rest_plan names schema) n t r policy is
            (then_ok (tables_plan names.tables schema) (script_plan names policy) n o t tables r set rest),
      )),
)

-- the schema, the policy, and tables without a reading
pub named_err : (names : Names) (bytes text : List ℕ) (schema : Schema) (policy : Policy) (s m n t : FilesSeen) (e : Stop Fault)
    → Got names.schema most_file_bytes bytes s m → widened (ddl_refusal names.schema) (schema_of bytes) ≡ Ok schema
    → Got names.policy most_file_bytes text m n → widened (policy_refusal names.policy) (policy_of schema text) ≡ Ok policy
    → Follows (tables_plan names.tables schema) n t (Err e) → Follows (reading_of names) s t (Err e)
named_err names bytes text schema policy s m n t e got read given is set = inr (
  bytes,
  m,
  got,
  found_ok (widened (ddl_refusal names.schema) (schema_of bytes)) (policy_plan names) m t (Err e) schema read
      (inr (
        text,
        n,
        given,
        found_ok (widened (policy_refusal names.policy) (policy_of schema text)) (rest_plan names schema) n t (Err e) policy is
            (then_err (tables_plan names.tables schema) (script_plan names policy) n t e set),
      )),
)

-- the schema, the policy, and then the proof
pub proof_ok : (names : ProofNames) (bytes text : List ℕ) (schema : Schema) (policy : Policy) (s m n t : FilesSeen) (r : Result Proof (Stop Fault))
    → Got names.schema most_file_bytes bytes s m → widened (ddl_refusal names.schema) (schema_of bytes) ≡ Ok schema
    → Got names.policy most_file_bytes text m n → widened (policy_refusal names.policy) (policy_of schema text) ≡ Ok policy
    → Follows (proof_plan names.proof policy) n t r → Follows (proof_reading_of names) s t r
proof_ok names bytes text schema policy s m n t r got read given is rest = inr (
  bytes,
  m,
  got,
  found_ok (widened (ddl_refusal names.schema) (schema_of bytes)) (policy_and_proof_plan names) m t r schema read
      (inr (text, n, given, found_ok (widened (policy_refusal names.policy) (policy_of schema text)) (proof_plan names.proof) n t r policy is rest)),
)

-- ---- the commands

-- the templates of a file were found, or why there are none
pub loading_found : (told : Told) (file : List ℕ) (input : Input) (s t : FilesSeen) (templates : Result (List kernel.Proof) (Stop Fault)) → Finds input.policy file s t templates → Comes (load_plan told (Some file) input) s t (run_with input told templates)
loading_found told file input s t (Ok templates) (inl missed) = absurd missed
loading_found told file input s t (Err e) (inl missed) = record {
  gave = Err e;
  follows = inl missed;
  becomes = refl;
}
loading_found told file input s t templates (inr (bytes, got, loaded)) = record {
  gave = Ok (loading input told file bytes);
  follows = inr (bytes, t, got, (refl, refl));
  becomes = record { templates = templates; loaded = loaded; is = refl };
}

-- the input, and then the run of it, with no file named
pub served_none : (told : Told) (load : Option (List ℕ)) (names : Names) (input : Input) (s t : FilesSeen) → load ≡ None → Follows (reading_of names) s t (Ok input) → Comes (served_plan told load names) s t (Ok (task.Run input told))
served_none told load names input s t none follows = subst (λ z. Comes (served_plan told z names) s t (Ok (task.Run input told))) (sym none) (record {
  gave = Ok (ready (task.Run input told));
  follows = then_ok (reading_of names) (load_plan told None) s t t input (Ok (ready (task.Run input told))) follows (refl, refl);
  becomes = refl;
})

-- with one
pub served_some : (told : Told) (load : Option (List ℕ)) (file : List ℕ) (names : Names) (input : Input) (s m t : FilesSeen) (r : Result Task (Stop Fault)) → load ≡ Some file → Follows (reading_of names) s m (Ok input) → Comes (load_plan told (Some file) input) m t r → Comes (served_plan told load names) s t r
served_some told load file names input s m t r some follows rest = subst (λ z. Comes (served_plan told z names) s t r) (sym some) (record {
  gave = rest.gave;
  follows = then_ok (reading_of names) (load_plan told (Some file)) s m t input rest.gave follows rest.follows;
  becomes = rest.becomes;
})

pub served_err : (told : Told) (load : Option (List ℕ)) (names : Names) (s t : FilesSeen) (e : Stop Fault) → Follows (reading_of names) s t (Err e) → Comes (served_plan told load names) s t (Err e)
served_err told load names s t e follows = record {
  gave = Err e;
  follows = then_err (reading_of names) (load_plan told load) s t e follows;
  becomes = refl;
}

-- a task that needs no templates
pub comes_ready : (plan : Plan Fault Task) (s t : FilesSeen) (r : Result Task (Stop Fault)) → Follows plan s t r → Comes (gathered plan) s t r
comes_ready plan s t (Ok it) follows = record {
  gave = Ok (ready it);
  follows = then_ok plan (λ z. done (ready z)) s t t it (Ok (ready it)) follows (refl, refl);
  becomes = refl;
}
comes_ready plan s t (Err e) follows = record {
  gave = Err e;
  follows = then_err plan (λ z. done (ready z)) s t e follows;
  becomes = refl;
}

-- a run, by what it is named
pub comes_run : (command : Command) (schema policy tables script : List ℕ) (load : Option (List ℕ)) (proofs : Bool) (workers budget orders : ℕ) (told : Told) (file : Option (List ℕ)) (names : Names) (s t : FilesSeen) (r : Result Task (Stop Fault)) → command ≡ Run schema policy tables script load proofs workers budget orders → told ≡ told_by proofs → file ≡ load
    → names ≡ record { schema = schema; policy = policy; tables = tables; script = script; workers = workers; budget = budget; orders = orders } → Comes (served_plan told file names) s t r → Comes (command_plan command) s t r
comes_run command schema policy tables script load proofs workers budget orders told file names s t r is so first same comes =
    let lent = subst (λ z. Comes (served_plan z file names) s t r) so comes in
    let loaded = subst (λ z. Comes (served_plan (told_by proofs) z names) s t r) first lent in
    subst (λ z. Comes (command_plan z) s t r) (sym is) (subst (λ z. Comes (served_plan (told_by proofs) load z) s t r) same loaded)

-- one whose templates are printed
pub comes_store : (command : Command) (schema policy tables script : List ℕ) (workers budget orders : ℕ) (names : Names) (s t : FilesSeen) (r : Result Task (Stop Fault)) → command ≡ Store schema policy tables script workers budget orders
    → names ≡ record { schema = schema; policy = policy; tables = tables; script = script; workers = workers; budget = budget; orders = orders } → Comes (served_plan Templates None names) s t r → Comes (command_plan command) s t r
comes_store command schema policy tables script workers budget orders names s t r is same comes =
    subst (λ z. Comes (command_plan z) s t r) (sym is) (subst (λ z. Comes (served_plan Templates None z) s t r) same comes)

-- a check, with the names of its files
pub comes_check : (schema policy proof a b d : List ℕ) (s t : FilesSeen) (r : Result Task (Stop Fault)) → a ≡ schema → b ≡ policy → d ≡ proof → Follows (check_plan (record { schema = a; policy = b; proof = d })) s t r → Comes (command_plan (Check schema policy proof)) s t r
comes_check schema policy proof a b d s t r first second third follows =
    let third_is = subst (λ z. Follows (check_plan (record { schema = a; policy = b; proof = z })) s t r) third follows in
    let second_is = subst (λ z. Follows (check_plan (record { schema = a; policy = z; proof = proof })) s t r) second third_is in
    let whole = subst (λ z. Follows (check_plan (record { schema = z; policy = policy; proof = proof })) s t r) first second_is in
    comes_ready (check_plan (record { schema = schema; policy = policy; proof = proof })) s t r whole

-- an audit, by what the run was given, and the name of the output
pub comes_audit : (schema policy tables script output : List ℕ) (names : Names) (name : List ℕ) (s t : FilesSeen) (r : Result Task (Stop Fault)) → names ≡ given_names schema policy tables script → name ≡ output → Follows (audit_plan names name) s t r → Comes (command_plan (Audit schema policy tables script output)) s t r
comes_audit schema policy tables script output names name s t r same is follows =
    let given = subst (λ z. Follows (audit_plan z name) s t r) same follows in
    comes_ready (audit_plan (given_names schema policy tables script) output) s t r (subst (λ z. Follows (audit_plan (given_names schema policy tables script) z) s t r) is given)

-- the words are a command's form
pub reads_command : (words : List (List ℕ)) (command : Command) (s t : FilesSeen) (r : Result Task (Stop Fault)) → command_of words ≡ Ok command → Comes (command_plan command) s t r → Reads words s t r
reads_command words command s t r is comes = subst (λ z. Comes (plan_at z) s t r) (sym is) comes

-- they are none
pub reads_no_form : (words : List (List ℕ)) (e : Failure WordsFault) (why : WordsFault) (s : FilesSeen) → e ≡ FailedBy why → Fails e (command_of words) → Reads words s s (Err (Refused Words))
reads_no_form words e NoForm s is fails = subst (λ z. Comes (plan_at z) s s (Err (Refused Words))) (sym (subst (λ z. Fails z (command_of words)) is fails)) (record {
  gave = Err (Refused Words);
  follows = (refl, refl);
  becomes = refl;
})

-- want of memory at once
pub comes_memory : (plan : Plan Fault Gathered) (s : FilesSeen) → Comes plan s s (Err NoMemory)
comes_memory plan s = record { gave = Err NoMemory; follows = memory_now plan s; becomes = refl }

-- the proof, and then the check of it
pub check_ok : (names : ProofNames) (proof : Proof) (s t : FilesSeen) → Follows (proof_reading_of names) s t (Ok proof) → Follows (check_plan names) s t (Ok (task.Check proof))
check_ok names proof s t follows = then_ok (proof_reading_of names) (λ z. done (task.Check z)) s t t proof (Ok (task.Check proof)) follows (refl, refl)

pub check_err : (names : ProofNames) (s t : FilesSeen) (e : Stop Fault) → Follows (proof_reading_of names) s t (Err e) → Follows (check_plan names) s t (Err e)
check_err names s t e follows = then_err (proof_reading_of names) (λ z. done (task.Check z)) s t e follows

-- what the run was given, and then the output
pub audit_ok : (names : Names) (output : List ℕ) (input : Input) (s m t : FilesSeen) (r : Result Task (Stop Fault)) → Follows (reading_of names) s m (Ok input) → Follows (output_plan output input) m t r → Follows (audit_plan names output) s t r
audit_ok names output input s m t r follows rest = then_ok (reading_of names) (output_plan output) s m t input r follows rest

pub audit_err : (names : Names) (output : List ℕ) (s t : FilesSeen) (e : Stop Fault) → Follows (reading_of names) s t (Err e) → Follows (audit_plan names output) s t (Err e)
audit_err names output s t e follows = then_err (reading_of names) (output_plan output) s t e follows

-- a policy that was read for a schema that was read
pub policy_is : (policy : Policy) → PolicyFits policy → AreTables policy.schema.tables → AreRules policy.schema → IsPolicy policy
policy_is policy fits tables rules = record {
  tables = tables;
  rules = rules.fit;
  views = fits;
}

-- the run of a workload
pub workload_ok : (seed requests workers : ℕ) (input : Input) (s : FilesSeen) → Follows (workload_reading seed requests workers) s s (Ok input) → Follows (workload_plan seed requests workers false) s s (Ok (task.Run input Summary))
workload_ok seed requests workers input s follows = then_ok (workload_reading seed requests workers) (λ z. done (task.Run z Summary)) s s s input (Ok (task.Run input Summary)) follows (refl, refl)

pub workload_err : (seed requests workers : ℕ) (s : FilesSeen) (e : Stop Fault) → Follows (workload_reading seed requests workers) s s (Err e) → Follows (workload_plan seed requests workers false) s s (Err e)
workload_err seed requests workers s e follows = then_err (workload_reading seed requests workers) (λ z. done (task.Run z Summary)) s s e follows
