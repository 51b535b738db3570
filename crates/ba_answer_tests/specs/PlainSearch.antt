-- What a search through the tables of a part finds, from the rows that it has chosen so far.
use Rattle.std.specs.Prelude.{◌≡◌, ◌≢◌, ◌⊎◌, ℕ, List, ◌++◌, Contains, Option, Some, None, map}
use Rattle.std.specs.List.Sorted.{IsStrictlySortedBy}
use Rattle.ba_model.specs.Meaning.{value_of, Compares, Gives, IsChoice}
use Rattle.ba_model.specs.Order.{row_cmp}
use Rattle.ba_model.specs.declared.policy.Context.{Context}
use Rattle.ba_model.specs.declared.query.Atom.{Atom}
use Rattle.ba_model.specs.declared.query.Operand.{Operand}
use Rattle.ba_model.specs.declared.query.Part.{Part}
use Rattle.ba_model.specs.declared.value.RowSet.{RowSet}
use Rattle.ba_model.specs.declared.value.Value.{Value}

-- the head has this row, or has none since an operand has no value
abbrev pub IsHead : Context → List (List Value) → List Operand → Option (List Value) → Type 0
IsHead c rows head None = (r : List Value) → map (value_of c rows) head ≢ map Some r
IsHead c rows head (Some r) = map (value_of c rows) head ≡ map Some r

-- the chosen rows and one row of each of these tables make the part give r
abbrev pub GivesFrom : Context → RowSet → Part → List ℕ → List (List Value) → List Value → Type 0
GivesFrom c d part from chosen r = (more : List (List Value)) × IsChoice d from more × Gives c (chosen ++ more) part r

-- some element has the row by P
abbrev pub BySome : {X : Type 0} → (X → List Value → Type 0) → List X → List Value → Type 0
BySome {X} P xs r = (x : X) × Contains xs x × P x r

-- the new list has the rows of the old one, all of P, and no others
pub record Adds (P : List Value → Type 0) (old new : List (List Value)) : Type 0 where
  pub kept : (r : List Value) → Contains old r → Contains new r
  pub added : (r : List Value) → P r → Contains new r
  pub only : (r : List Value) → Contains new r → Contains old r ⊎ P r

-- the list is strictly rising and has exactly the rows found
pub record IsRisingListOf (found rows : List (List Value)) : Type 0 where
  pub rising : IsStrictlySortedBy row_cmp rows
  pub kept : (r : List Value) → Contains found r → Contains rows r
  pub only : (r : List Value) → Contains rows r → Contains found r
