-- The steps in which told rows are compared.
use Rattle.std.specs.Prelude.{◌≡◌, ◌≢◌, ◌⊎◌, ◌<◌, ℕ, List, [], ◌∷◌, All, Any, Option, Some, None, length, slice_get}
use Rattle.ba_model.specs.declared.policy.Context.{Context}
use Rattle.ba_model.specs.declared.query.Part.{Part}
use Rattle.ba_model.specs.declared.schema.Schema.{Schema}
use Rattle.ba_model.specs.declared.schema.Table.{Table}
use Rattle.ba_model.specs.declared.value.Value.{Value}
use Rattle.ba_model.specs.declared.value.Value.TheVariants.{Null}
use Rattle.ba_comply.specs.declared.trace.TraceEntry.{TraceEntry}
use Rattle.ba_clash.specs.Clash.{IsApart, IsShared, Told, known}
use Rattle.ba_clash.specs.declared.known.Read.{Read}

-- the row read at the place
abbrev pub told : Part → List Value → ℕ → Told
told part row place = record { part = part; row = row; place = place }

-- the part of a question that has no other
abbrev pub only_of : List Part → Option Part
only_of [] = None
only_of (part ∷ []) = Some part
only_of (part ∷ other ∷ more) = None

-- the row knows a value of the column, and it isn't NULL
pub record IsFilled (c : Context) (it : Told) (column : ℕ) : Type 0 where
  pub value : Value
  pub is : known c it column ≡ Some value
  pub some : value ≢ Null

-- the row knows a key of the table
abbrev pub KnowsKey : Context → Table → Told → Type 0
KnowsKey c table it = Any (All (IsFilled c it)) table.keys

-- the told row that a `Read` reads
abbrev pub told_of : Read → Told
told_of it = told it.part.now it.row.now it.place

-- ---- two rows

-- the two are one row of the table by a key
abbrev pub AreOne : Context → Table → Told → Told → Type 0
AreOne c table one other = Any (All (IsShared c one other)) table.keys

-- the two differ in a column of the table
pub record Differ (c : Context) (table : Table) (one other : Told) : Type 0 where
  pub column : ℕ
  pub is_column : column < length table.columns
  pub apart : IsApart c one other column

-- both
pub record Clash (c : Context) (table : Table) (one other : Told) : Type 0 where
  pub are_one : AreOne c table one other
  pub differ : Differ c table one other

-- ---- the rows that one new row is compared with

-- one of the rows, read at the place, which has the table of this number, clashes with the new one
pub record MeetsAt (c : Context) (number : ℕ) (table : Table) (one : Told) (part : Part)
    (rows : List (List Value)) (place : ℕ) : Type 0 where
  pub at : slice_get part.from place ≡ Some number
  pub met : Any (λ row. Clash c table one (told part row place)) rows

-- at some place
pub record MeetsIn (c : Context) (number : ℕ) (table : Table) (one : Told) (part : Part)
    (rows : List (List Value)) : Type 0 where
  pub place : ℕ
  pub is_place : place < length part.from
  pub met : MeetsAt c number table one part rows place

-- one of the entry's rows does, and its question has one part
pub record MeetsEntry (c : Context) (number : ℕ) (table : Table) (one : Told) (entry : TraceEntry)
    : Type 0 where
  pub part : Part
  pub only : only_of entry.query.parts ≡ Some part
  pub met : MeetsIn c number table one part entry.rows

-- an entry does that was told before, or a new one
abbrev pub MeetsOld : Context → ℕ → Table → Told → List TraceEntry → Type 0
MeetsOld c number table one old = Any (MeetsEntry c number table one) old

abbrev pub MeetsNew : Context → ℕ → Table → Told → List TraceEntry → Type 0
MeetsNew c number table one new = Any (MeetsEntry c number table one) new

-- ---- new rows

-- the row knows a key of the table, and is met
pub record IsMet (c : Context) (old new : List TraceEntry) (number : ℕ) (table : Table)
    (one : Told) : Type 0 where
  pub knows : KnowsKey c table one
  pub met : MeetsOld c number table one old ⊎ MeetsNew c number table one new

-- one of the rows is, read at the place
pub record IsMetAt (s : Schema) (c : Context) (old new : List TraceEntry) (part : Part)
    (rows : List (List Value)) (place : ℕ) : Type 0 where
  pub number : ℕ
  pub table : Table
  pub at : slice_get part.from place ≡ Some number
  pub is_table : slice_get s.tables number ≡ Some table
  pub met : Any (λ row. IsMet c old new number table (told part row place)) rows

-- at some place
pub record IsMetIn (s : Schema) (c : Context) (old new : List TraceEntry) (part : Part)
    (rows : List (List Value)) : Type 0 where
  pub place : ℕ
  pub is_place : place < length part.from
  pub met : IsMetAt s c old new part rows place

-- one of the entry's rows is, and its question has one part
pub record IsMetEntry (s : Schema) (c : Context) (old new : List TraceEntry) (entry : TraceEntry)
    : Type 0 where
  pub part : Part
  pub only : only_of entry.query.parts ≡ Some part
  pub met : IsMetIn s c old new part entry.rows

-- ---- loops

-- it is so of no number below
abbrev pub NoneBelow : (ℕ → Type 0) → ℕ → Type 0
NoneBelow P n = (k : ℕ) → k < n → P k → ⊥

-- it is so of the element with this number
pub record IsSoAt {X : Type 0} (P : X → Type 0) (xs : List X) (k : ℕ) : Type 0 where
  pub it : X
  pub at : slice_get xs k ≡ Some it
  pub so : P it
