-- What holds of a decision service at all times.
use Rattle.std.specs.Prelude.{◌≡◌, ℕ, ◌<◌, ◌≤◌, List, [], All, Contains, Some, None}
use Rattle.ba_judge.specs.Shelves.{AreTaken}
use Rattle.ba_kernel.specs.Asked.{RecordFits}
use Rattle.ba_kernel.specs.SearchStates.{Proof}
use Rattle.ba_model.specs.Fit.{ContextFits, IsQuery, PolicyFits, kinds_of}
use Rattle.ba_model.specs.Limits.{most_budget}
use Rattle.ba_model.specs.RuleFaults.{RuleFits}
use Rattle.ba_model.specs.SchemaFaults.{AreTables}
use Rattle.ba_model.specs.declared.policy.Policy.{Policy}
use Rattle.ba_target.specs.Names.{Serves}
use Rattle.ba_target.specs.declared.target.Target.{Target}
use Rattle.ba_live.specs.Books.{asked_at, many_open, open_at}
use Rattle.ba_live.specs.Limits.{most_open, most_open_asks}
use Rattle.ba_live.specs.declared.live.Live.{Live}
use Rattle.ba_live.specs.declared.open.Asked.{Asked}
use Rattle.ba_live.specs.declared.open.Open.{Open}

-- the policy, its schema and its rules were checked
pub record IsServable (policy : Policy) : Type 0 where
  pub fits : PolicyFits policy
  pub tables : AreTables policy.schema.tables
  pub rules : All (RuleFits policy.schema) policy.schema.rules

-- a service of the policy in which nothing is open, and on whose shelves these templates were put
pub record IsFresh (policy : Policy) (target : Target) (loaded : List Proof) (budget : ℕ)
    (it : Live) : Type 0 where
  pub policy_is : it.policy ≡ policy
  pub target_is : it.target ≡ target
  pub budget_is : it.budget ≡ budget
  pub shelves : AreTaken loaded it.shelves
  pub nothing_open : (name : List ℕ) → open_at it name ≡ None
  pub nothing_asked : (line : ℕ) → asked_at it line ≡ None
  pub none : many_open it.requests ≡ 0

-- an open request fits the policy
pub record IsAsker (policy : Policy) (asker : Open) : Type 0 where
  pub context : ContextFits (kinds_of policy.params) asker.context
  pub trace : All (RecordFits policy) asker.trace
  pub few : asker.asks ≤ most_open_asks

-- a question that may be told was checked, and is one of the lines of its open request
pub record IsQuestion (it : Live) (line : ℕ) (question : Asked) : Type 0 where
  pub query : IsQuery it.policy.schema (kinds_of it.policy.params) [] question.query
  pub asker : Open
  pub is_open : open_at it question.name ≡ Some asker
  pub listed : Contains asker.lines line

-- a line of an open request is that of a question of it that may be told
pub record IsListed (it : Live) (name : List ℕ) (line : ℕ) : Type 0 where
  pub question : Asked
  pub was_asked : asked_at it line ≡ Some question
  pub name_is : question.name ≡ name

pub record IsSound (it : Live) : Type 0 where
  pub servable : IsServable it.policy
  pub serves : Serves it.target it.policy.schema
  pub budget : it.budget ≤ most_budget
  pub few : many_open it.requests ≤ most_open
  pub askers : (name : List ℕ) (asker : Open) → open_at it name ≡ Some asker →
      IsAsker it.policy asker
  pub questions : (line : ℕ) (question : Asked) → asked_at it line ≡ Some question →
      IsQuestion it line question
  pub lines : (name : List ℕ) (asker : Open) → open_at it name ≡ Some asker →
      All (IsListed it name) asker.lines

-- questions of earlier lines alone may be told
pub record AllBefore (next : ℕ) (it : Live) : Type 0 where
  pub each : (line : ℕ) (question : Asked) → asked_at it line ≡ Some question → line < next

-- before the line of the number `next` is served
pub record IsLive (next : ℕ) (it : Live) : Type 0 where
  pub sound : IsSound it
  pub earlier : AllBefore next it
