-- The parameters of a policy that was read have names of their own.
use Rattle.std.proofs.Common.{◌≡◌, ℕ, inl, inr, Bool, true, false, cond, nat_lt, List, [], Option, Some, None, Result, Ok, Err, length, map, refl, subst, sym, unwrap_or}
use Rattle.std.proofs.lemmas.Map.Made.{IsDistinct-from_AllPairs}
use Rattle.std.proofs.lemmas.Slice.Eq.{bytes_eq-Decides}
use Rattle.ba_command.specs.Words.{command_of}
use Rattle.ba_command.specs.declared.command.Command.{Command}
use Rattle.ba_command.specs.declared.command.Command.TheVariants.{Run, Store, Gen, Check, Audit}
use Rattle.ba_command.specs.declared.command.WordsFault.{WordsFault}
use Rattle.ba_command.specs.declared.command.WordsFault.TheVariants.{NoForm}
use Rattle.ba_input.specs.Reading.{Gathered, Names, audit_plan, check_plan, command_plan, gathered, given_names, load_plan, loading, output_plan, over, plan_at, plan_of, policy_plan, proof_reading_of, published_plan, ready, reading_of, rest_plan, script_plan, served_plan, sets_plan, tables_plan, told_by, workload_names, workload_plan, workload_reading}
use Rattle.ba_input.specs.Reads.{Becomes, Reads, run_with}
use Rattle.ba_input.specs.Refusals.{ddl_refusal, policy_refusal, script_refusal}
use Rattle.ba_input.specs.declared.input.Input.{Input}
use Rattle.ba_input.specs.declared.task.Task.{Task}
use Rattle.ba_input.specs.declared.task.Task.TheVariants as task
use Rattle.ba_input.specs.declared.task.Told.{Told}
use Rattle.ba_input.specs.declared.task.Told.TheVariants.{Summary, Templates}
use Rattle.ba_kernel.specs.SearchStates as kernel
use Rattle.ba_model.specs.Readings.{widened}
use Rattle.ba_model.specs.SchemaFaults.{AreDistinct}
use Rattle.ba_model.specs.declared.limits.Counted.TheVariants.{FileBytes}
use Rattle.ba_model.specs.declared.policy.Parameter.{Parameter}
use Rattle.ba_model.specs.declared.policy.Policy.{Policy}
use Rattle.ba_model.specs.declared.schema.Schema.{Schema}
use Rattle.ba_outside.specs.Seen.{FilesSeen}
use Rattle.ba_plan.specs.Follows.{Follows}
use Rattle.ba_plan.specs.Plan.{Plan, ◌>>=◌, ask, done, found, refuse}
use Rattle.ba_plan.specs.declared.stop.Stop.{Stop}
use Rattle.ba_policy.proofs.ReadingLemmas.{policy_sound}
use Rattle.ba_policy.specs.Reading.{policy_of}
use Rattle.ba_script.specs.Reading.{script_of}
use Rattle.ba_sql_ddl.specs.Reading.{schema_of}
use Rattle.ba_tables.specs.TableSet.{TableSet}
use Rattle.ba_wire.specs.declared.fault.Fault.{Fault}
use Rattle.ba_wire.specs.declared.fault.Fault.TheVariants.{Limit}
use Rattle.ba_workload.specs.Files.{bytes_in, files_of}

-- ---- what plans give

-- whatever the plan gives is as P says
abbrev Yields : {E X : Type 0} → (X → Type 0) → Plan E X → Type 0
Yields P (done x) = P x
Yields P (refuse e) = Unit {0}
Yields P (ask name limit next) = (bytes : List ℕ) → Yields P (next bytes)

ok_same : {X E : Type 0} (x y : X) → ◌≡◌ {A = Result X E} (Ok x) (Ok y) → x ≡ y
ok_same x y e = cc e

follows_yields : {E X : Type 0} (P : X → Type 0) (plan : Plan E X) (old new : FilesSeen) (x : X) → Follows plan old new (Ok x) → Yields P plan → P x
follows_yields P (done y) old new x (gives, same) h = subst P (ok_same y x gives) h
follows_yields P (refuse e) old new x (gives, same) h = absurd (cc gives)
follows_yields P (ask name limit next) old new x (inl none) h = absurd none
follows_yields P (ask name limit next) old new x (inr (bytes, mid, got, rest)) h = follows_yields P (next bytes) mid new x rest (h bytes)

yields_then : {E A B : Type 0} (Q : B → Type 0) (plan : Plan E A) (f : A → Plan E B) → ((x : A) → Yields Q (f x)) → Yields Q (plan >>= f)
yields_then Q (done x) f h = h x
yields_then Q (refuse e) f h = tt
yields_then Q (ask name limit next) f h = λ bytes. yields_then Q (next bytes) f h

yields_bind : {E A B : Type 0} (P : A → Type 0) (Q : B → Type 0) (plan : Plan E A) (f : A → Plan E B) → Yields P plan → ((x : A) → P x → Yields Q (f x)) → Yields Q (plan >>= f)
yields_bind P Q (done x) f p h = h x p
yields_bind P Q (refuse e) f p h = tt
yields_bind P Q (ask name limit next) f p h = λ bytes. yields_bind P Q (next bytes) f (p bytes) h

yields_found : {E X : Type 0} (P : X → Type 0) (r : Result X E) → ((x : X) → r ≡ Ok x → P x) → Yields P (found r)
yields_found P (Ok x) h = h x refl
yields_found P (Err e) h = tt

yields_over : {X : Type 0} (P : X → Type 0) (bytes : List ℕ → List ℕ) (plan : Plan Fault X) → Yields P plan → Yields P (over bytes plan)
yields_over P bytes (done x) h = h
yields_over P bytes (refuse e) h = tt
yields_over P bytes (ask name limit next) h = by (nat_lt limit (length (bytes name))) (yields_over P bytes (next (bytes name)) (h (bytes name)))
  where
    by : (t : Bool) → Yields P (over bytes (next (bytes name))) → Yields P (cond t (refuse (Limit FileBytes limit)) (over bytes (next (bytes name))))
    by true rest = tt
    by false rest = rest

-- ---- inputs

abbrev AreNamed : Policy → Type 0
AreNamed policy = AreDistinct (map (λ (parameter : Parameter). parameter.name) policy.params)

abbrev InputIsNamed : Input → Type 0
InputIsNamed input = AreNamed input.policy

widened_is : {A F G : Type 0} (into : F → G) (r : Result A F) (x : A) → widened into r ≡ Ok x → r ≡ Ok x
widened_is into (Ok y) x e = (λ i. Ok (ok_same y x e i))
widened_is into (Err f) x e = absurd (cc e)

read_named : (schema : Schema) (bytes : List ℕ) (policy : Policy) → policy_of schema bytes ≡ Ok policy → AreNamed policy
read_named schema bytes policy is =
    IsDistinct-from_AllPairs bytes_eq-Decides (map (λ (parameter : Parameter). parameter.name) policy.params) (policy_sound schema bytes policy is).declared.differ

module _ (names : Names) where
  script_named : (policy : Policy) (tables : TableSet) → AreNamed policy → Yields InputIsNamed (script_plan names policy tables)
  script_named policy tables named = λ bytes.
      yields_then InputIsNamed (found (widened (script_refusal names.script) (script_of policy.params policy.keys bytes))) (published_plan names policy tables) (λ script.
      yields_then InputIsNamed (sets_plan policy.schema script.entries []) (λ published.
      done (record { policy = policy; tables = tables; script = script; published = published; workers = names.workers; budget = names.budget; loaded = []; orders = names.orders }))
      (λ published. named))

  rest_named : (schema : Schema) (policy : Policy) → AreNamed policy → Yields InputIsNamed (rest_plan names schema policy)
  rest_named schema policy named = yields_then InputIsNamed (tables_plan names.tables schema) (script_plan names policy) (λ tables. script_named policy tables named)

  policy_named : (schema : Schema) → Yields InputIsNamed (policy_plan names schema)
  policy_named schema = λ bytes.
      yields_bind AreNamed InputIsNamed (found (widened (policy_refusal names.policy) (policy_of schema bytes))) (rest_plan names schema)
      (yields_found AreNamed (widened (policy_refusal names.policy) (policy_of schema bytes))
      (λ policy is. read_named schema bytes policy (widened_is (policy_refusal names.policy) (policy_of schema bytes) policy is)))
      (λ policy named. rest_named schema policy named)

  input_named : Yields InputIsNamed (reading_of names)
  input_named = λ bytes. yields_then InputIsNamed (found (widened (ddl_refusal names.schema) (schema_of bytes))) (policy_plan names) policy_named

workload_named : (seed requests workers : ℕ) → Yields InputIsNamed (workload_reading seed requests workers)
unfolding workload_reading
workload_named seed requests workers =
    yields_over InputIsNamed (λ name. unwrap_or (bytes_in (files_of seed requests) name) []) (reading_of (workload_names workers)) (input_named (workload_names workers))

-- ---- commands

abbrev TaskIsNamed : Task → Type 0
TaskIsNamed (task.Run input told) = InputIsNamed input
TaskIsNamed (task.Print text) = Unit {0}
TaskIsNamed (task.Check proof) = Unit {0}
TaskIsNamed (task.Audit input bytes) = Unit {0}

abbrev GatheredIsNamed : Gathered → Type 0
GatheredIsNamed (ready it) = TaskIsNamed it
GatheredIsNamed (loading input told file bytes) = InputIsNamed input

gathered_named : (plan : Plan Fault Task) → Yields TaskIsNamed plan → Yields GatheredIsNamed (gathered plan)
gathered_named plan h = yields_bind TaskIsNamed GatheredIsNamed plan (λ it. done (ready it)) h (λ it named. named)

load_named : (told : Told) (load : Option (List ℕ)) (input : Input) → InputIsNamed input → Yields GatheredIsNamed (load_plan told load input)
load_named told None input named = named
load_named told (Some file) input named = λ bytes. named

served_named : (told : Told) (load : Option (List ℕ)) (names : Names) → Yields GatheredIsNamed (served_plan told load names)
served_named told load names = yields_bind InputIsNamed GatheredIsNamed (reading_of names) (load_plan told load) (input_named names) (λ input named. load_named told load input named)

workload_task : (seed requests workers : ℕ) (print : Bool) → Yields TaskIsNamed (workload_plan seed requests workers print)
workload_task seed requests workers true = tt
workload_task seed requests workers false = yields_bind InputIsNamed TaskIsNamed (workload_reading seed requests workers) (λ input. done (task.Run input Summary)) (workload_named seed requests workers) (λ input named. named)

command_named : (command : Command) → Yields GatheredIsNamed (command_plan command)
command_named (Run schema policy tables script load proofs workers budget orders) =
    served_named (told_by proofs) load (record { schema = schema; policy = policy; tables = tables; script = script; workers = workers; budget = budget; orders = orders })
command_named (Store schema policy tables script workers budget orders) =
    served_named Templates None (record { schema = schema; policy = policy; tables = tables; script = script; workers = workers; budget = budget; orders = orders })
command_named (Gen seed requests workers print) = gathered_named (workload_plan seed requests workers print) (workload_task seed requests workers print)
command_named (Check schema policy proof) =
    gathered_named (check_plan (record { schema = schema; policy = policy; proof = proof }))
    (yields_then TaskIsNamed (proof_reading_of (record { schema = schema; policy = policy; proof = proof })) (λ it. done (task.Check it)) (λ it. tt))
command_named (Audit schema policy tables script output) =
    gathered_named (audit_plan (given_names schema policy tables script) output)
    (yields_then TaskIsNamed (reading_of (given_names schema policy tables script)) (output_plan output) (λ input. λ bytes. tt))

words_named : (command : Result Command WordsFault) → Yields GatheredIsNamed (plan_at command)
words_named (Err NoForm) = tt
words_named (Ok command) = command_named command

-- ---- what was read

run_is : (a b : Input) (t u : Told) → task.Run a t ≡ task.Run b u → a ≡ b
run_is a b t u e = cc e

ok_task : (a b : Task) → ◌≡◌ {A = Result Task (Stop Fault)} (Ok a) (Ok b) → a ≡ b
ok_task a b e = ok_same a b e

loaded_named : (given : Input) (told : Told) (templates : Result (List kernel.Proof) (Stop Fault)) (input : Input) (other : Told) → Ok (task.Run input other) ≡ run_with given told templates → InputIsNamed given → InputIsNamed input
loaded_named given told (Ok templates) input other e named =
    subst InputIsNamed (sym (run_is input (record given { loaded = templates }) other told (ok_task (task.Run input other) (task.Run (record given { loaded = templates }) told) e))) named
loaded_named given told (Err stop) input other e named = absurd (cc e)

becomes_named : (gave : Result Gathered (Stop Fault)) (input : Input) (told : Told) → Becomes gave (Ok (task.Run input told)) → ((it : Gathered) → gave ≡ Ok it → GatheredIsNamed it) → InputIsNamed input
becomes_named (Err stop) input told h named = absurd (cc h)
becomes_named (Ok (ready it)) input told h named = subst TaskIsNamed (sym (ok_task (task.Run input told) it h)) (named (ready it) refl)
becomes_named (Ok (loading given other file bytes)) input told h named = loaded_named given other h.templates input told h.is (named (loading given other file bytes) refl)

-- the parameters of the policy of a run that was read have names of their own
pub run_named : (words : List (List ℕ)) (f g : FilesSeen) (input : Input) (told : Told) → Reads words f g (Ok (task.Run input told)) → AreDistinct (map (λ parameter. parameter.name) input.policy.params)
run_named words f g input told h =
    becomes_named h.gave input told h.becomes
    (λ it is. follows_yields GatheredIsNamed (plan_of words) f g it (subst (Follows (plan_of words) f g) is h.follows) (words_named (command_of words)))
