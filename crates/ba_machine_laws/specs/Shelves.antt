-- What looks find on a shelf was admitted there, so a machine that was admitted the same has it.
use Rattle.std.specs.Prelude.{◌≡◌, ℕ, ◌+◌, List, [], ◌∷◌, Contains, Some, slice_get}
use Rattle.std.specs.List.{flat_map}
use Rattle.ba_machine_laws.specs.Agreeing.{HasFound}
use Rattle.ba_cache.specs.Rows.{Legal, Row}
use Rattle.ba_cache.specs.declared.call.Admit.TheVariants.{Added, Known}
use Rattle.ba_cache.specs.declared.call.ShelfCall.{ShelfCall}
use Rattle.ba_cache.specs.declared.call.ShelfCall.TheVariants as calls
use Rattle.ba_core.specs.State.{State}
use Rattle.ba_kernel.specs.SearchStates.{Proof}
use Rattle.ba_session.specs.Passing.{ShelfCalls}

-- the template that a call added
abbrev pub added_in : ShelfCall → List Proof
added_in (calls.Look shape found) = []
added_in (calls.Admit template (Added id)) = template.value ∷ []
added_in (calls.Admit template (Known id)) = []
added_in calls.Refused = []

-- the templates that calls added, in order
abbrev pub templates_of : List ShelfCall → List Proof
templates_of made = flat_map added_in made

-- The machine was admitted the templates that these calls added, in their order, under numbers
-- from this one on.
pub record HasAdmitted (first : ℕ) (s : State) (made : List ShelfCall) : Type 0 where
  pub each : (n : ℕ) (template : Proof) → slice_get (templates_of made) n ≡ Some template →
      slice_get s.templates (first + n) ≡ Some template

-- Where the calls are some of a shelf's history, of which the machine was admitted what was added,
-- it has what they found: the one with an id has the shelf's first number plus the id.
abbrev pub FoundIsAdmitted : Type 0
FoundIsAdmitted = (first : ℕ → ℕ) (s : State) (made : ShelfCalls) (history : List ShelfCall)
    (rows : List Row) →
    Legal history rows → HasAdmitted (first made.shard) s history →
    ((call : ShelfCall) → Contains made.calls call → Contains history call) →
    HasFound (λ shard id. first shard + id) s made
