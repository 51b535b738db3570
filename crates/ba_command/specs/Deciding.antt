-- What the words behind `decide` ask for, over what `clap` says of a simple command.
use Rattle.std.specs.Prelude.{ℕ, List, Bool, codes, Option, Some, None, Result, Ok, Err, if◌then◌else◌}
use Rattle.std.specs.Str.{bytes_eq}
use Rattle.clap.specs.Faults.{fault_of}
use Rattle.clap.specs.Simple.{App, matches_of, with_rule}
use Rattle.clap.specs.Walk.{Text, first_of}
use Rattle.ba_command.specs.Words.{bare, flag_rule, is_set, needed, number_or, number_rule, option_rule, unless_fault}
use Rattle.ba_command.specs.declared.command.WordsFault.{WordsFault}
use Rattle.ba_command.specs.declared.command.WordsFault.TheVariants.{NoForm}
use Rattle.ba_command.specs.declared.decide.Deciding.{Deciding}
use Rattle.ba_model.specs.Limits.{least_budget, most_budget, usual_budget}
use Rattle.ba_model.specs.Readings.{◌>>=◌}
use Rattle.ba_target.specs.declared.target.Database.{Database}
use Rattle.ba_target.specs.declared.target.Database.TheVariants.{PostgreSql, Sqlite, MySql}
use Rattle.ba_target.specs.declared.target.Target.{Target}

-- decide --schema S --policy P [--load T] [--budget B] [--evidence] [--database D] [--namespace N]
abbrev pub decide_app : App
decide_app = with_rule (with_rule (with_rule (with_rule (with_rule (with_rule (with_rule
    (bare (codes "decide"))
    (needed (option_rule (codes "schema"))))
    (needed (option_rule (codes "policy"))))
    (option_rule (codes "load")))
    (number_rule (codes "budget") least_budget most_budget))
    (flag_rule (codes "evidence")))
    (option_rule (codes "database")))
    (option_rule (codes "namespace"))

-- the database of this name; PostgreSQL where none is named
abbrev pub database_of : Option Text → Option Database
database_of None = Some PostgreSql
database_of (Some name) =
    if bytes_eq name (codes "postgresql") then Some PostgreSql
    else (if bytes_eq name (codes "sqlite") then Some Sqlite
    else (if bytes_eq name (codes "mysql") then Some MySql
    else None))

-- it, with the namespace of its tables
abbrev pub target_in : Option Text → Option Database → Result Target WordsFault
target_in namespace (Some database) = Ok (record { database = database; namespace = namespace })
target_in namespace None = Err NoForm

abbrev pub target_from : (Text → Option Text) → Result Target WordsFault
target_from given = target_in (given (codes "namespace")) (database_of (given (codes "database")))

-- with the names of the files, which must be given
abbrev pub with_names : Option Text → Option Text → Option Text → ℕ → Bool → Target →
    Result Deciding WordsFault
with_names (Some schema) (Some policy) load budget evidence target = Ok (record {
  schema = schema;
  policy = policy;
  load = load;
  budget = budget;
  evidence = evidence;
  target = target;
})
with_names None policy load budget evidence target = Err NoForm
with_names (Some schema) None load budget evidence target = Err NoForm

-- what the values of the options ask for
abbrev pub decide_from : (Text → Option Text) → Result Deciding WordsFault
decide_from given = target_from given >>=
    with_names (given (codes "schema")) (given (codes "policy")) (given (codes "load"))
    (number_or least_budget most_budget usual_budget (given (codes "budget")))
    (is_set (given (codes "evidence")))

-- what the words behind `decide` ask for
unfoldable pub decide_of : List Text → Result Deciding WordsFault
decide_of words = unless_fault (fault_of decide_app words) (decide_from (λ id. first_of id (matches_of decide_app words)))
