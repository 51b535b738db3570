-- What the words behind `decide` come to.
use Rattle.std.specs.Prelude.{◌≡◌, ◌⊎◌, ℕ, ◌≤◌, List, [], All, Option, Some, None, Result, Ok, Err, ⊤}
use Rattle.ba_command.specs.Deciding.{decide_of}
use Rattle.ba_command.specs.declared.command.WordsFault.{WordsFault}
use Rattle.ba_command.specs.declared.decide.Deciding.{Deciding}
use Rattle.ba_kernel.specs.SearchStates as kernel
use Rattle.ba_model.specs.Fit.{PolicyFits}
use Rattle.ba_model.specs.Limits.{most_budget}
use Rattle.ba_model.specs.Readings.{widened}
use Rattle.ba_model.specs.RuleFaults.{AreRules}
use Rattle.ba_model.specs.SchemaFaults.{AreTables}
use Rattle.ba_model.specs.declared.policy.Policy.{Policy}
use Rattle.ba_model.specs.declared.schema.Schema.{Schema}
use Rattle.ba_outside.specs.Seen.{FilesSeen}
use Rattle.ba_plan.specs.Follows.{Follows}
use Rattle.ba_plan.specs.Plan.{Plan, found, ◌>>=◌}
use Rattle.ba_plan.specs.declared.stop.Stop.{Stop}
use Rattle.ba_plan.specs.declared.stop.Stop.TheVariants.{NoMemory, Refused}
use Rattle.ba_policy.specs.Reading.{policy_of}
use Rattle.ba_sql_ddl.specs.Reading.{schema_of}
use Rattle.ba_input.specs.Reading.{file_of}
use Rattle.ba_input.specs.Reads.{Finds}
use Rattle.ba_input.specs.Refusals.{ddl_refusal, names_refusal, policy_refusal}
use Rattle.ba_target.specs.Names.{Misnames, Serves}
use Rattle.ba_target.specs.declared.names.Misnamed.{Misnamed}
use Rattle.ba_input.specs.declared.deciding.PolicyInput.{PolicyInput}
use Rattle.ba_wire.specs.declared.fault.Fault.{Fault}
use Rattle.ba_wire.specs.declared.fault.Fault.TheVariants.{Words}

-- ---- the policy

abbrev pub text_plan : List ℕ → Schema → Plan Fault Policy
text_plan name schema = do
  bytes ← file_of name
  found (widened (policy_refusal name) (policy_of schema bytes))

-- first the schema of one file, then the policy of another
abbrev pub policy_reading_of : List ℕ → List ℕ → Plan Fault Policy
policy_reading_of schema policy = do
  bytes ← file_of schema
  it ← found (widened (ddl_refusal schema) (schema_of bytes))
  text_plan policy it

-- ---- the templates

-- the policy with the templates, and the rest of what the words say
abbrev pub given : Deciding → Policy → Result (List kernel.Proof) (Stop Fault) →
    Result PolicyInput (Stop Fault)
given named policy (Ok loaded) = Ok (record {
  policy = policy;
  loaded = loaded;
  budget = named.budget;
  evidence = named.evidence;
  target = named.target;
})
given named policy (Err stop) = Err stop

-- the templates of the file, or none where none is named
abbrev pub LoadsFrom : Option (List ℕ) → Policy → FilesSeen → FilesSeen →
    Result (List kernel.Proof) (Stop Fault) → Type 0
LoadsFrom None policy old new result = (result ≡ Ok []) × (new ≡ old)
LoadsFrom (Some file) policy old new result = Finds policy file old new result

-- what is given once the policy was read
pub record GivesAfter (named : Deciding) (policy : Policy) (old new : FilesSeen)
    (result : Result PolicyInput (Stop Fault)) : Type 0 where
  pub templates : Result (List kernel.Proof) (Stop Fault)
  pub loads : LoadsFrom named.load policy old new templates
  pub is : result ≡ given named policy templates

-- ---- the words

-- the policy is read first, and then the templates
abbrev pub GoesOn : Deciding → Result Policy (Stop Fault) → FilesSeen → FilesSeen →
    Result PolicyInput (Stop Fault) → Type 0
GoesOn named (Err stop) old new result = (result ≡ Err stop) × (new ≡ old)
GoesOn named (Ok policy) old new result = GivesAfter named policy old new result

pub record ReadsNamed (named : Deciding) (old new : FilesSeen)
    (result : Result PolicyInput (Stop Fault)) : Type 0 where
  pub between : FilesSeen
  pub gave : Result Policy (Stop Fault)
  pub follows : Follows (policy_reading_of named.schema named.policy) old between gave
  pub goes_on : GoesOn named gave between new result

-- ---- the database

-- what was read, where its database serves the schema; else why not, which is told of the schema's
-- file; or there was no memory to find out
abbrev pub IsServed : List ℕ → PolicyInput → Result PolicyInput (Stop Fault) → Type 0
IsServed file input (Ok it) = (it ≡ input) × Serves input.target input.policy.schema
IsServed file input (Err NoMemory) = ⊤
IsServed file input (Err (Refused fault)) =
    (why : Misnamed) × Misnames input.target input.policy.schema why ×
    (fault ≡ names_refusal file why)
IsServed file input (Err _) = ⊥

abbrev pub IsServedAfter : List ℕ → Result PolicyInput (Stop Fault) →
    Result PolicyInput (Stop Fault) → Type 0
IsServedAfter file (Ok input) result = IsServed file input result
IsServedAfter file (Err stop) result = result ≡ Err stop

-- all that the words name is read, and then the database has to serve the schema
pub record ReadsServed (named : Deciding) (old new : FilesSeen)
    (result : Result PolicyInput (Stop Fault)) : Type 0 where
  pub read : Result PolicyInput (Stop Fault)
  pub reads : ReadsNamed named old new read
  pub served : IsServedAfter named.schema read result

abbrev pub ReadsWords : Result Deciding WordsFault → FilesSeen → FilesSeen →
    Result PolicyInput (Stop Fault) → Type 0
ReadsWords (Err fault) old new result = (result ≡ Err (Refused Words)) × (new ≡ old)
ReadsWords (Ok named) old new result = ReadsServed named old new result

-- what the words come to, whatever the files do; or there was no memory for the words
abbrev pub ReadsPolicy : List (List ℕ) → FilesSeen → FilesSeen → Result PolicyInput (Stop Fault) →
    Type 0
ReadsPolicy words old new result =
    ((result ≡ Err NoMemory) × (new ≡ old)) ⊎ ReadsWords (decide_of words) old new result

-- What was read belongs together: the policy, its schema and its rules were checked, the budget is
-- within its limit, and each template is of the policy.
pub record IsPolicyInput (it : PolicyInput) : Type 0 where
  pub fits : PolicyFits it.policy
  pub tables : AreTables it.policy.schema.tables
  pub rules : AreRules it.policy.schema
  pub budget : it.budget ≤ most_budget
  pub loaded : All (λ template. template.problem.policy ≡ it.policy) it.loaded
