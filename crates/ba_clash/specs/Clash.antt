-- Told rows that are one row of a table by a key, and differ.
use Rattle.std.specs.Prelude.{◌≡◌, ◌≢◌, ◌+◌, ◌*◌, ◌<◌, ◌≤◌, ◌++◌, ℕ, List, [], ◌∷◌, All, Contains, Option, Some, None, if◌then◌else◌, length, slice_get}
use Rattle.std.specs.List.{sum_by}
use Rattle.std.specs.Option.{option_or}
use Rattle.ba_model.specs.Conform.{Conforms}
use Rattle.ba_model.specs.declared.policy.Context.{Context}
use Rattle.ba_model.specs.declared.query.Atom.{Atom}
use Rattle.ba_model.specs.declared.query.Op.{Op}
use Rattle.ba_model.specs.declared.query.Op.TheVariants.{Eq, Ne, Lt, Le, IsNull, NotNull}
use Rattle.ba_model.specs.declared.query.Operand.{Operand}
use Rattle.ba_model.specs.declared.query.Operand.TheVariants.{Col, Val, Param, Var}
use Rattle.ba_model.specs.declared.query.Part.{Part}
use Rattle.ba_model.specs.declared.schema.Schema.{Schema}
use Rattle.ba_model.specs.declared.schema.Table.{Table}
use Rattle.ba_model.specs.declared.value.RowSet.{RowSet}
use Rattle.ba_model.specs.declared.value.Value.{Value}
use Rattle.ba_model.specs.declared.value.Value.TheVariants.{Null}
use Rattle.ba_comply.specs.Comply.{Shows}
use Rattle.ba_comply.specs.declared.trace.TraceEntry.{TraceEntry}
use Rattle.ba_parts.specs.Parts.{column_in, is_column}

-- ---- what a told row knows

-- a row of a part's answer, read at one place of the part's tables
pub record Told : Type 0 where
  pub part : Part
  pub row : List Value
  pub place : ℕ

-- the value of a constant: a literal's own, or that of a parameter
abbrev pub constant_of : Context → Operand → Option Value
constant_of c (Col place column) = None
constant_of c (Val v) = Some v
constant_of c (Param n) = slice_get c.values n
constant_of c (Var n) = None

-- the value of the one operand where the other one is the column
abbrev pub across : Context → ℕ → ℕ → Operand → Operand → Option Value
across c place column it other = if is_column place column it then constant_of c other else None

-- the constant that a condition fixes the column by: it is an equation of the two
abbrev pub fixed_by : Context → ℕ → ℕ → Op → Operand → Operand → Option Value
fixed_by c place column Eq left right =
    option_or (across c place column left right) (across c place column right left)
fixed_by c place column Ne left right = None
fixed_by c place column Lt left right = None
fixed_by c place column Le left right = None
fixed_by c place column IsNull left right = None
fixed_by c place column NotNull left right = None

-- the constant that the first such condition fixes the column by
abbrev pub fixed_in : Context → List Atom → ℕ → ℕ → Option Value
fixed_in c [] place column = None
fixed_in c (atom ∷ atoms) place column =
    option_or (fixed_by c place column atom.op atom.left atom.right) (fixed_in c atoms place column)

-- what the row tells of the column: its value where the column stands in the head, or else the
-- constant that a condition fixes it by
abbrev pub known : Context → Told → ℕ → Option Value
known c it column =
    option_or (column_in it.part.head it.row it.place column)
    (fixed_in c it.part.conds it.place column)

-- ---- when two of them clash

-- both rows know the same value of the column, and it isn't NULL
pub record IsShared (c : Context) (one other : Told) (column : ℕ) : Type 0 where
  pub value : Value
  pub is_mine : known c one column ≡ Some value
  pub is_its : known c other column ≡ Some value
  pub some : value ≢ Null

-- the rows know different values of the column
pub record IsApart (c : Context) (one other : Told) (column : ℕ) : Type 0 where
  pub mine : Value
  pub its : Value
  pub is_mine : known c one column ≡ Some mine
  pub is_its : known c other column ≡ Some its
  pub differ : mine ≢ its

-- the row is one of an entry whose question has the one part, and the place has the table of this
-- number
pub record IsTold (entries : List TraceEntry) (number : ℕ) (it : Told) : Type 0 where
  pub entry : TraceEntry
  pub there : Contains entries entry
  pub alone : entry.query.parts ≡ it.part ∷ []
  pub in_it : Contains entry.rows it.row
  pub at : slice_get it.part.from it.place ≡ Some number

-- A new row and any told row are one row of a table by a key of it, and differ in a column of it.
pub record Clashes (s : Schema) (c : Context) (old new : List TraceEntry) : Type 0 where
  pub number : ℕ
  pub table : Table
  pub is_table : slice_get s.tables number ≡ Some table
  pub one : Told
  pub other : Told
  pub one_told : IsTold new number one
  pub other_told : IsTold (old ++ new) number other
  pub key : List ℕ
  pub is_key : Contains table.keys key
  pub shared : All (IsShared c one other) key
  pub column : ℕ
  pub is_column : column < length table.columns
  pub apart : IsApart c one other column

-- No database that conforms shows told rows that clash.
abbrev pub ClashingHasNoDatabase : Type 0
ClashingHasNoDatabase =
    (s : Schema) (c : Context) (old new : List TraceEntry) → Clashes s c old new →
    (d : RowSet) → Conforms s d → Shows old c d → Shows new c d → ⊥

-- ---- the limit

-- pairs of told rows that are compared at one telling
abbrev pub most_compared : ℕ
most_compared = 1000000

-- the rows of all entries
abbrev pub told_rows : List TraceEntry → ℕ
told_rows entries = sum_by (λ (entry : TraceEntry). length entry.rows) entries

-- each new row with each told row: so many pairs are compared
abbrev pub AreFew : List TraceEntry → List TraceEntry → Type 0
AreFew old new = told_rows new * (told_rows old + told_rows new) ≤ most_compared
