-- When a match, once it is given, is one.
use Rattle.std.specs.Prelude.{◌≡◌, ℕ, List, Option, Some, map, slice_get}
use Rattle.ba_model.specs.declared.value.Value.{Value}
use Rattle.ba_comply.specs.declared.trace.TraceEntry.{TraceEntry}
use Rattle.ba_facts.specs.Fits.{Instance}
use Rattle.ba_kernel.specs.Problems.{fixed_value, query_at}
use Rattle.ba_kernel.specs.declared.problem.ProblemEntry.{ProblemEntry}

-- the function gives it
abbrev pub Gives : {A B : Type 0} → (A → B) → A → B → Type 0
Gives f a b = f a ≡ b

-- the function gives a value
abbrev pub GivesSome : {A B : Type 0} → (A → Option B) → A → B → Type 0
GivesSome f a b = f a ≡ Some b

-- under the instance the problem's entry is what was told: its query, and its row the one of the number
pub record StandsIn (i : Instance) (entry : ProblemEntry) (told : TraceEntry) (n : ℕ) : Type 0 where
  pub row : List Value
  pub row_is : slice_get told.rows n ≡ Some row
  pub query : told.query ≡ query_at i.vars entry.query
  pub values : map (fixed_value i) entry.row ≡ map Some row
