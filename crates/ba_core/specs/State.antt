-- What stands between two events.
use Rattle.std.specs.Prelude.{◌≡◌, ◌≢◌, ℕ, List, [], ◌∷◌, All, Option, Some, slice_get}
use Rattle.std.specs.BTreeMap.{is_at}
use Rattle.std.specs.Map.{lookup}
use Rattle.std.specs.Ordering.{nat_cmp}
use Rattle.ba_comply.specs.Comply.{Records}
use Rattle.ba_core.specs.declared.opened.Answered.{Answered}
use Rattle.ba_core.specs.declared.opened.Opened.{Opened}
use Rattle.ba_kernel.specs.SearchStates.{Proof}
use Rattle.ba_model.specs.Conform.{Conforms}
use Rattle.ba_model.specs.Fit.{ContextFits, PolicyFits, kinds_of}
use Rattle.ba_model.specs.declared.policy.Policy.{Policy}
use Rattle.ba_tables.specs.TableSet.{TableSet}

-- the policy, the versions of the tables, the templates that were admitted, the open requests by rising numbers, and all answers that were given
pub record State : Type 0 where
  pub policy : Policy
  pub versions : List TableSet
  pub templates : List Proof
  pub requests : List (ℕ × Opened)
  pub log : List Answered

-- the open request of the number, if there is one
abbrev pub opened_at : State → ℕ → Option Opened
opened_at s k = lookup (is_at (nat_cmp k)) s.requests

-- the number k has this open request, or none; every other number has what it had
pub record ChangesOnly (old new : State) (k : ℕ) (it : Option Opened) : Type 0 where
  pub here : opened_at new k ≡ it
  pub others : (j : ℕ) → j ≢ k → opened_at new j ≡ opened_at old j

-- before any event: the tables are the first version, no template was admitted, no request is open, nothing was answered
pub record IsFirst (policy : Policy) (tables : TableSet) (s : State) : Type 0 where
  pub policy_is : s.policy ≡ policy
  pub versions_are : s.versions ≡ tables ∷ []
  pub templates_are : s.templates ≡ []
  pub none_open : s.requests ≡ []
  pub log_is : s.log ≡ []

-- ---- what the machine keeps

-- the tables are of the policy's schema and conform to it
pub record IsVersion (policy : Policy) (tables : TableSet) : Type 0 where
  pub schema : tables.schema ≡ policy.schema
  pub conforms : Conforms policy.schema tables.rows

-- the request's context is one for the policy, its version is there, and its trace has its queries' answers in this version
pub record IsOpenRequest (policy : Policy) (versions : List TableSet) (asker : Opened) : Type 0 where
  pub context : ContextFits (kinds_of policy.params) asker.context
  pub tables : TableSet
  pub pinned : slice_get versions asker.version ≡ Some tables
  pub recorded : Records asker.trace asker.context tables.rows

-- the policy's views are checked, the versions conform, and each open request is as it was begun and answered
pub record IsState (s : State) : Type 0 where
  pub policy : PolicyFits s.policy
  pub versions : All (IsVersion s.policy) s.versions
  pub requests : (k : ℕ) (asker : Opened) → opened_at s k ≡ Some asker → IsOpenRequest s.policy s.versions asker
