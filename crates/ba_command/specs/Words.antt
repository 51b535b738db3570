-- The command that words ask for, over what `clap` says of a simple command.
use Rattle.std.specs.Prelude.{ℕ, ◌≡◌, ◌⊎◌, ◌≤◌, ◌&&◌, List, [], ◌∷◌, Bool, true, false, nat_le, codes, Option, Some, None, unwrap_or, Result, Ok, Err, if◌then◌else◌}
use Rattle.std.specs.Str.{bytes_eq}
use Rattle.std.specs.Str.Parse.{digits_value, without_leading_plus}
use Rattle.clap.specs.Faults.{fault_of}
use Rattle.clap.specs.Kinds.{Kinds}
use Rattle.clap.specs.Simple.{App, matches_of, new_app, new_rule, on_top, with_rule}
use Rattle.clap.specs.ValueTests.{is_numeral}
use Rattle.clap.specs.Walk.{Rule, Text, first_of}
use Rattle.clap.specs.declared.builder.action.ArgAction.TheVariants.{Set, SetTrue}
use Rattle.clap.specs.declared.builder.value_parser.ValueParser.TheVariants as parser
use Rattle.ba_command.specs.declared.command.Command.{Command}
use Rattle.ba_command.specs.declared.command.Command.TheVariants.{Run, Check, Gen, Store, Audit}
use Rattle.ba_command.specs.declared.command.WordsFault.{WordsFault}
use Rattle.ba_command.specs.declared.command.WordsFault.TheVariants.{NoForm}
use Rattle.ba_command.specs.declared.given.Given.{Given}
use Rattle.ba_command.specs.declared.served.Served.{Served}
use Rattle.ba_model.specs.Limits.{least_budget, least_workers, most_budget, most_requests, most_seed, most_workers, usual_budget, usual_workers}

-- in how many orders of its due steps a proof may be searched for, at least and at most, and in how many where the words don't say
abbrev pub least_orders : ℕ
least_orders = 1

abbrev pub most_orders : ℕ
most_orders = 2

abbrev pub usual_orders : ℕ
usual_orders = 1

-- an option with one value: `--id VALUE` or `--id=VALUE`
abbrev pub option_rule : Text → Rule
option_rule id = record (new_rule id) { long = Some id; action = Some Set }

-- one whose value is a number between two
abbrev pub number_rule : Text → ℕ → ℕ → Rule
number_rule id least most = record (option_rule id) { parser = Some (parser.Unsigned least most) }

-- one that has no value: `--id`
abbrev pub flag_rule : Text → Rule
flag_rule id = record (new_rule id) { long = Some id; action = Some SetTrue }

-- one that must be given
abbrev pub needed : Rule → Rule
needed rule = record rule { required = true }

-- a command with no help and no version, whose words leave out its name
abbrev pub bare : Text → App
bare name = on_top (λ s. record s { no_binary_name = true; disable_help_flag = true; disable_version_flag = true }) (new_app name)

-- a command that is given a script: --schema S --policy P --tables D --script F
abbrev pub given_app : Text → App
given_app name = with_rule (with_rule (with_rule (with_rule (bare name)
    (needed (option_rule (codes "schema"))))
    (needed (option_rule (codes "policy"))))
    (needed (option_rule (codes "tables"))))
    (needed (option_rule (codes "script")))

-- one that serves it: .. [--workers N] [--budget B] [--orders N]
abbrev pub served_app : Text → App
served_app name = with_rule (with_rule (with_rule (given_app name)
    (number_rule (codes "workers") least_workers most_workers))
    (number_rule (codes "budget") least_budget most_budget))
    (number_rule (codes "orders") least_orders most_orders)

-- run, with [--load T] [--proofs]
abbrev pub run_app : App
run_app = with_rule (with_rule (served_app (codes "run")) (option_rule (codes "load"))) (flag_rule (codes "proofs"))

-- store, which loads none and prints no proofs
abbrev pub store_app : App
store_app = served_app (codes "store")

-- audit, with --output O
abbrev pub audit_app : App
audit_app = with_rule (given_app (codes "audit")) (needed (option_rule (codes "output")))

-- check --schema S --policy P --proof F
abbrev pub check_app : App
check_app = with_rule (with_rule (with_rule (bare (codes "check"))
    (needed (option_rule (codes "schema"))))
    (needed (option_rule (codes "policy"))))
    (needed (option_rule (codes "proof")))

-- gen --seed N --requests R [--workers N] [--print]
abbrev pub gen_app : App
gen_app = with_rule (with_rule (with_rule (with_rule (bare (codes "gen"))
    (needed (number_rule (codes "seed") 0 most_seed)))
    (needed (number_rule (codes "requests") 0 most_requests)))
    (number_rule (codes "workers") least_workers most_workers))
    (flag_rule (codes "print"))

-- the number between two that a text spells, if it spells one
abbrev pub number_in : ℕ → ℕ → Option Text → Option ℕ
number_in least most None = None
number_in least most (Some text) =
    let n = digits_value 10 (without_leading_plus text) in
    if is_numeral (without_leading_plus text) && (nat_le least n && nat_le n most) then Some n else None

-- the same, or another
abbrev pub number_or : ℕ → ℕ → ℕ → Option Text → ℕ
number_or least most other given = unwrap_or (number_in least most given) other

-- `clap` gives an option that has no value the text `true` where it stands, else `false`
abbrev pub is_set : Option Text → Bool
is_set None = false
is_set (Some text) = bytes_eq text (codes "true")

abbrev pub with_texts : Option Text → Option Text → Option Text → Option Text → Result Given WordsFault
with_texts (Some schema) (Some policy) (Some tables) (Some script) = Ok (record { schema = schema; policy = policy; tables = tables; script = script })
with_texts None policy tables script = Err NoForm
with_texts (Some schema) None tables script = Err NoForm
with_texts (Some schema) (Some policy) None script = Err NoForm
with_texts (Some schema) (Some policy) (Some tables) None = Err NoForm

-- the files of a script, and of what it is served over, by the values of the options
abbrev pub given_from : (Text → Option Text) → Result Given WordsFault
given_from given = with_texts (given (codes "schema")) (given (codes "policy")) (given (codes "tables")) (given (codes "script"))

abbrev pub as_served : ℕ → ℕ → ℕ → Result Given WordsFault → Result Served WordsFault
as_served workers budget orders (Ok it) = Ok (record { schema = it.schema; policy = it.policy; tables = it.tables; script = it.script; workers = workers; budget = budget; orders = orders })
as_served workers budget orders (Err e) = Err e

-- which script is served, over what, and how, by the values of the options
abbrev pub served_from : (Text → Option Text) → Result Served WordsFault
served_from given = as_served (number_or least_workers most_workers usual_workers (given (codes "workers"))) (number_or least_budget most_budget usual_budget (given (codes "budget")))
    (number_or least_orders most_orders usual_orders (given (codes "orders"))) (given_from given)

abbrev pub as_run : Option Text → Bool → Result Served WordsFault → Result Command WordsFault
as_run load proofs (Ok it) = Ok (Run it.schema it.policy it.tables it.script load proofs it.workers it.budget it.orders)
as_run load proofs (Err e) = Err e

-- the run that the values of the options are
abbrev pub run_from : (Text → Option Text) → Result Command WordsFault
run_from given = as_run (given (codes "load")) (is_set (given (codes "proofs"))) (served_from given)

abbrev pub as_store : Result Served WordsFault → Result Command WordsFault
as_store (Ok it) = Ok (Store it.schema it.policy it.tables it.script it.workers it.budget it.orders)
as_store (Err e) = Err e

-- the store that the values of the options are
abbrev pub store_from : (Text → Option Text) → Result Command WordsFault
store_from given = as_store (served_from given)

abbrev pub with_files : Option Text → Option Text → Option Text → Result Command WordsFault
with_files (Some schema) (Some policy) (Some proof) = Ok (Check schema policy proof)
with_files None policy proof = Err NoForm
with_files (Some schema) None proof = Err NoForm
with_files (Some schema) (Some policy) None = Err NoForm

-- the check that the values of the options are
abbrev pub check_from : (Text → Option Text) → Result Command WordsFault
check_from given = with_files (given (codes "schema")) (given (codes "policy")) (given (codes "proof"))

abbrev pub with_numbers : Option ℕ → Option ℕ → ℕ → Bool → Result Command WordsFault
with_numbers (Some seed) (Some requests) workers print = Ok (Gen seed requests workers print)
with_numbers None requests workers print = Err NoForm
with_numbers (Some seed) None workers print = Err NoForm

-- the workload that the values of the options ask for
abbrev pub gen_from : (Text → Option Text) → Result Command WordsFault
gen_from given = with_numbers (number_in 0 most_seed (given (codes "seed"))) (number_in 0 most_requests (given (codes "requests")))
    (number_or least_workers most_workers usual_workers (given (codes "workers"))) (is_set (given (codes "print")))

abbrev pub as_audit : Result Given WordsFault → Option Text → Result Command WordsFault
as_audit (Ok it) (Some output) = Ok (Audit it.schema it.policy it.tables it.script output)
as_audit (Ok it) None = Err NoForm
as_audit (Err e) output = Err e

-- the audit that the values of the options are
abbrev pub audit_from : (Text → Option Text) → Result Command WordsFault
audit_from given = as_audit (given_from given) (given (codes "output"))

-- where `clap` finds no fault
abbrev pub unless_fault : {X : Type 0} → Kinds → Result X WordsFault → Result X WordsFault
unless_fault [] found = found
unless_fault (kind ∷ kinds) found = Err NoForm

-- how many steps a search may take; a check and an audit search for none
abbrev pub budget_of : Command → ℕ
budget_of (Run schema policy tables script load proofs workers budget orders) = budget
budget_of (Store schema policy tables script workers budget orders) = budget
budget_of (Check schema policy proof) = 0
budget_of (Gen seed requests workers print) = usual_budget
budget_of (Audit schema policy tables script output) = 0

-- how many workers serve a script; a check and an audit have none
abbrev pub workers_of : Command → Option ℕ
workers_of (Run schema policy tables script load proofs workers budget orders) = Some workers
workers_of (Store schema policy tables script workers budget orders) = Some workers
workers_of (Check schema policy proof) = None
workers_of (Gen seed requests workers print) = Some workers
workers_of (Audit schema policy tables script output) = None

-- in how many orders of its due steps a proof is searched for; a check and an audit search for none
abbrev pub orders_of : Command → Option ℕ
orders_of (Run schema policy tables script load proofs workers budget orders) = Some orders
orders_of (Store schema policy tables script workers budget orders) = Some orders
orders_of (Check schema policy proof) = None
orders_of (Gen seed requests workers print) = Some usual_orders
orders_of (Audit schema policy tables script output) = None

-- at least one, and at most as many as may be
abbrev pub AreWorkers : ℕ → Type 0
AreWorkers n = (least_workers ≤ n) × (n ≤ most_workers)

-- one or two
abbrev pub AreOrders : ℕ → Type 0
AreOrders n = (n ≡ 1) ⊎ (n ≡ 2)

-- a workload that is generated has a seed and a number of requests within the limits
abbrev pub WorkloadFits : Command → Type 0
WorkloadFits (Run schema policy tables script load proofs workers budget orders) = Unit {0}
WorkloadFits (Store schema policy tables script workers budget orders) = Unit {0}
WorkloadFits (Check schema policy proof) = Unit {0}
WorkloadFits (Gen seed requests workers print) = (seed ≤ most_seed) × (requests ≤ most_requests)
WorkloadFits (Audit schema policy tables script output) = Unit {0}

-- what the words behind `run` ask for
unfoldable pub run_of : List Text → Result Command WordsFault
run_of words = unless_fault (fault_of run_app words) (run_from (λ id. first_of id (matches_of run_app words)))

-- what the words behind `store` ask for
unfoldable pub store_of : List Text → Result Command WordsFault
store_of words = unless_fault (fault_of store_app words) (store_from (λ id. first_of id (matches_of store_app words)))

-- what the words behind `check` ask for
unfoldable pub check_of : List Text → Result Command WordsFault
check_of words = unless_fault (fault_of check_app words) (check_from (λ id. first_of id (matches_of check_app words)))

-- what the words behind `gen` ask for
unfoldable pub gen_of : List Text → Result Command WordsFault
gen_of words = unless_fault (fault_of gen_app words) (gen_from (λ id. first_of id (matches_of gen_app words)))

-- what the words behind `audit` ask for
unfoldable pub audit_of : List Text → Result Command WordsFault
audit_of words = unless_fault (fault_of audit_app words) (audit_from (λ id. first_of id (matches_of audit_app words)))

-- the command that the words ask for, or that they are no command's form
abbrev pub command_of : List Text → Result Command WordsFault
command_of [] = Err NoForm
command_of (name ∷ words) =
    if bytes_eq name (codes "run") then run_of words
    else (if bytes_eq name (codes "check") then check_of words
    else (if bytes_eq name (codes "gen") then gen_of words
    else (if bytes_eq name (codes "store") then store_of words
    else (if bytes_eq name (codes "audit") then audit_of words
    else Err NoForm))))
