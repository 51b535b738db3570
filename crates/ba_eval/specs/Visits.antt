-- How many rows an answer may read.
use Rattle.std.specs.Prelude.{◌≡◌, ◌≢◌, ℕ, ◌+◌, ◌<◌, ◌≤◌, ⊤, List, [], ◌∷◌, ◌++◌, drop, All, Contains, length, Some, slice_get, sum, sum_by}
use Rattle.std.specs.List.{AllPairs, AllZip}
use Rattle.ba_model.specs.Meaning.{Holds, rows_of}
use Rattle.ba_model.specs.declared.policy.Context.{Context}
use Rattle.ba_model.specs.declared.query.Atom.{Atom}
use Rattle.ba_model.specs.declared.query.Op.TheVariants.{Eq}
use Rattle.ba_model.specs.declared.query.Part.{Part}
use Rattle.ba_model.specs.declared.value.RowSet.{RowSet}
use Rattle.ba_model.specs.declared.value.Value.{Value}
use Rattle.ba_eval.specs.Index.{StandsWithin}

-- the rows are those at these positions of the first of the tables
abbrev pub AreAt : RowSet → List ℕ → List ℕ → List (List Value) → Type 0
AreAt d tables [] [] = ⊤
AreAt d tables [] (row ∷ rows) = ⊥
AreAt d [] (position ∷ positions) rows = ⊥
AreAt d (table ∷ tables) (position ∷ positions) [] = ⊥
AreAt d (table ∷ tables) (position ∷ positions) (row ∷ rows) = (slice_get (rows_of d table) position ≡ Some row) × AreAt d tables positions rows

-- the rows make true every equation of the part whose columns all stand in their places
abbrev pub MeetsEquations : Context → Part → List (List Value) → Type 0
MeetsEquations c part rows = (atom : Atom) → Contains part.conds atom → atom.op ≡ Eq → StandsWithin (length rows) atom.left → StandsWithin (length rows) atom.right → Holds c rows atom

-- positions of rows for some of the part's first places, one at least, which make true every equation of the part
-- whose columns all stand in those places
pub record IsVisit (c : Context) (d : RowSet) (part : Part) (positions : List ℕ) : Type 0 where
  pub rows : List (List Value)
  pub some : 0 < length positions
  pub are : AreAt d part.from positions rows
  pub met : MeetsEquations c part rows

-- the part has n visits at least
pub record HasVisits (c : Context) (d : RowSet) (part : Part) (n : ℕ) : Type 0 where
  pub visits : List (List ℕ)
  pub each : All (IsVisit c d part) visits
  pub distinct : AllPairs (λ x y. x ≢ y) visits
  pub count : length visits ≡ n

-- the rows of the part's tables, one by one
abbrev pub rows_read : RowSet → Part → ℕ
rows_read d part = sum_by (λ table. length (rows_of d table)) part.from

-- the steps from old to new are at most the sum over the parts of their visits and of the rows of their tables
pub record StepsWithin (c : Context) (d : RowSet) (parts : List Part) (old new : ℕ) : Type 0 where
  pub visits : List ℕ
  pub each : AllZip (HasVisits c d) parts visits
  pub within : new ≤ old + (sum visits + sum_by (rows_read d) parts)

-- the search has chosen these rows, at these positions, and the further tables are left
pub record Reached (c : Context) (d : RowSet) (part : Part) (from positions : List ℕ) (chosen : List (List Value)) : Type 0 where
  pub left : drop (length positions) part.from ≡ from
  pub are : AreAt d part.from positions chosen
  pub met : 0 < length chosen → MeetsEquations c part chosen

-- positions that go on from these
abbrev pub GoOn : List ℕ → List ℕ → Type 0
GoOn before positions = (position : ℕ) × (more : List ℕ) × (positions ≡ before ++ position ∷ more)

-- each step from old to new is a visit that goes on from these positions
pub record Visited (c : Context) (d : RowSet) (part : Part) (before : List ℕ) (old new : ℕ) : Type 0 where
  pub visits : List (List ℕ)
  pub each : All (IsVisit c d part) visits
  pub beyond : All (GoOn before) visits
  pub distinct : AllPairs (λ x y. x ≢ y) visits
  pub count : new ≤ old + length visits
