-- Where told rows are put while their entries are made.
use Rattle.std.specs.Prelude.{◌≡◌, ◌≢◌, ℕ, ◌+◌, ◌++◌, ◌<◌, Bool, true, false, List, [], ◌∷◌, All, Contains, length, Option, Some, None, slice_get, ⊤}
use Rattle.ba_comply.specs.declared.trace.TraceEntry.{TraceEntry}
use Rattle.ba_model.specs.Limits.{most_parts}
use Rattle.ba_model.specs.declared.policy.Context.{Context}
use Rattle.ba_model.specs.declared.query.Part.{Part}
use Rattle.ba_model.specs.declared.query.Query.{Query}
use Rattle.ba_model.specs.declared.schema.Schema.{Schema}
use Rattle.ba_model.specs.declared.value.Value.{Value}
use Rattle.ba_parts.specs.Parts.{CanBeOf, Chosen, alone}
use Rattle.ba_told.specs.declared.entries.Place.{Place}
use Rattle.ba_told.specs.declared.entries.Place.TheVariants.{Nowhere, Alone, Whole}

-- a number of a part
abbrev pub IsShort : Place → Type 0
IsShort Nowhere = ⊤
IsShort (Alone number) = number < most_parts
IsShort Whole = ⊤

-- the row can be of the part of this number and of no other
pub record IsAlone (s : Schema) (c : Context) (row : List Value) (parts : List Part) (number : ℕ)
    : Type 0 where
  pub part : Part
  pub at : slice_get parts number ≡ Some part
  pub chosen : Chosen (CanBeOf s c row) parts (part ∷ [])

-- the row can be of several of the parts
pub record IsOfSeveral (s : Schema) (c : Context) (row : List Value) (parts : List Part) : Type 0 where
  pub one : Part
  pub other : Part
  pub more : List Part
  pub chosen : Chosen (CanBeOf s c row) parts (one ∷ other ∷ more)

-- where the row is recorded, by the parts that it can be of
abbrev pub IsPlace : Schema → Context → List Value → List Part → Place → Type 0
IsPlace s c row parts Nowhere = Chosen (CanBeOf s c row) parts []
IsPlace s c row parts (Alone number) = IsAlone s c row parts number
IsPlace s c row parts Whole = IsOfSeveral s c row parts

-- the place once a part more stands in front
abbrev pub behind : Bool → Place → Place
behind false Nowhere = Nowhere
behind false (Alone number) = Alone (number + 1)
behind false Whole = Whole
behind true Nowhere = Alone 0
behind true (Alone number) = Whole
behind true Whole = Whole

-- the list at which the rows of a place stand, of those of so many parts
abbrev pub list_of : ℕ → Place → Option ℕ
list_of parts Nowhere = None
list_of parts (Alone number) = Some number
list_of parts Whole = Some parts

-- the row belongs to the list of this number
pub record IsOfList (s : Schema) (c : Context) (parts : List Part) (number : ℕ) (row : List Value)
    : Type 0 where
  pub place : Place
  pub is_place : IsPlace s c row parts place
  pub list : list_of (length parts) place ≡ Some number

-- the row is in the list to which it belongs
pub record IsInList (s : Schema) (c : Context) (parts : List Part) (lists : List (List (List Value)))
    (row : List Value) : Type 0 where
  pub number : ℕ
  pub belongs : IsOfList s c parts number row
  pub list : List (List Value)
  pub at : slice_get lists number ≡ Some list
  pub in_it : Contains list row

-- the rows of each list belong to it
abbrev pub Belong : Schema → Context → List Part → List (List Value) → ℕ → List (List Value) → Type 0
Belong s c parts rows number list =
    All (λ row. Contains rows row × IsOfList s c parts number row) list

-- these rows stand in the lists to which they belong, and no others do
pub record AreByPlace (s : Schema) (c : Context) (parts : List Part) (rows : List (List Value))
    (lists : List (List (List Value))) : Type 0 where
  pub many : length lists ≡ length parts + 1
  pub all : All (IsInList s c parts lists) rows
  pub only : (number : ℕ) (list : List (List Value)) → slice_get lists number ≡ Some list →
      Belong s c parts rows number list

-- the row stands behind those of the list of this number, and the other lists stay
pub record IsPut (number : ℕ) (row : List Value) (old new : List (List (List Value))) : Type 0 where
  pub many : length new ≡ length old
  pub at : (list : List (List Value)) → slice_get old number ≡ Some list →
      slice_get new number ≡ Some (list ++ row ∷ [])
  pub others : (i : ℕ) → i ≢ number → slice_get new i ≡ slice_get old i

-- the question under which the rows of a list are recorded
abbrev pub alone_or : Query → Option Part → Query
alone_or q None = q
alone_or q (Some part) = alone part

abbrev pub question_at : Query → ℕ → Query
question_at q number = alone_or q (slice_get q.parts number)

-- the entry of the list of this number, unless that is empty
abbrev pub entry_in : Query → ℕ → List (List Value) → List TraceEntry
entry_in q number [] = []
entry_in q number (row ∷ rows) = record { query = question_at q number; rows = row ∷ rows } ∷ []

-- the entries of the lists, which are numbered from this one on
abbrev pub entries_in : Query → ℕ → List (List (List Value)) → List TraceEntry
entries_in q number [] = []
entries_in q number (list ∷ lists) = entry_in q number list ++ entries_in q (number + 1) lists
