-- The versions of the tables, and the calls on them.
use Rattle.std.specs.Prelude.{◌≡◌, ℕ, ◌+◌, List, [], ◌∷◌, ◌++◌, Some, length, slice_get}
use Rattle.ba_model.specs.Conform.{Conforms}
use Rattle.ba_tables.specs.TableSet.{TableSet}
use Rattle.ba_versions.specs.declared.call.VersionCall.{VersionCall}
use Rattle.ba_versions.specs.declared.call.VersionCall.TheVariants.{Publish, Pin, Refused}

-- the tables are of the schema of the opening ones
abbrev pub IsOfSchema : TableSet → TableSet → Type 0
IsOfSchema opening tables = tables.schema ≡ opening.schema

-- and conform to it
pub record IsVersion (opening tables : TableSet) : Type 0 where
  pub schema : IsOfSchema opening tables
  pub conforms : Conforms tables.schema tables.rows

-- the tables come after the old versions, and their place is their number
pub record IsPublished (opening : TableSet) (old : List TableSet) (tables : TableSet) (n : ℕ) (new : List TableSet) : Type 0 where
  pub version : IsVersion opening tables
  pub number : n ≡ length old
  pub appended : new ≡ old ++ tables ∷ []

-- the version n is the last one, and these are its tables; nothing changes
pub record IsPinned (old : List TableSet) (n : ℕ) (tables : TableSet) (new : List TableSet) : Type 0 where
  pub last : n + 1 ≡ length old
  pub there : slice_get old n ≡ Some tables
  pub same : new ≡ old

-- the call takes the old versions to the new ones, with its answer
abbrev pub Steps : TableSet → List TableSet → VersionCall → List TableSet → Type 0
Steps opening old (Publish tables n) new = IsPublished opening old tables.value n new
Steps opening old (Pin n tables) new = IsPinned old n tables.value new
Steps opening old Refused new = new ≡ old

-- the calls were made in turn, from the opening tables as version 0 on, and left these versions
pub data Legal (opening : TableSet) : List VersionCall → List TableSet → Type 0 where
  start : IsVersion opening opening → Legal opening [] (opening ∷ [])
  next : {calls : List VersionCall} {old new : List TableSet} (call : VersionCall) → Legal opening calls old → Steps opening old call new → Legal opening (calls ++ call ∷ []) new

-- some versions are left by the calls
abbrev pub IsLegal : TableSet → List VersionCall → Type 0
IsLegal opening calls = ∥ ((list : List TableSet) × Legal opening calls list) ∥₁
