-- What a query means over a database. A value is NULL, any whole number, or a text (any list of bytes); a row is a
-- list of values; a database has for each table of the schema a list of rows, which is read as a set.
use Rattle.std.specs.Prelude.{◌≡◌, ◌≢◌, ℕ, ◌<ℤ◌, ◌≤ℤ◌, List, [], All, Contains, map, Option, Some, None, slice_get, unwrap_or, option_and_then}
use Rattle.std.specs.List.{AllZip}
use Rattle.std.specs.List.Sorted.{IsStrictlySortedBy}
use Rattle.ba_model.specs.Order.{row_cmp}
use Rattle.ba_model.specs.declared.policy.Context.{Context}
use Rattle.ba_model.specs.declared.query.Atom.{Atom}
use Rattle.ba_model.specs.declared.query.Op.{Op}
use Rattle.ba_model.specs.declared.query.Op.TheVariants.{Eq, Ne, Lt, Le, IsNull, NotNull}
use Rattle.ba_model.specs.declared.query.Operand.{Operand}
use Rattle.ba_model.specs.declared.query.Operand.TheVariants.{Col, Val, Param, Var}
use Rattle.ba_model.specs.declared.query.Part.{Part}
use Rattle.ba_model.specs.declared.query.Query.{Query}
use Rattle.ba_model.specs.declared.value.RowSet.{RowSet}
use Rattle.ba_model.specs.declared.value.Value.{Value}
use Rattle.ba_model.specs.declared.value.Value.TheVariants.{Null, Int}

-- the rows of a table
abbrev pub rows_of : RowSet → ℕ → List (List Value)
rows_of d table = unwrap_or (slice_get d.tables table) []

-- the value of an operand, if it has one: of a column at a place of the part, a constant or a parameter
abbrev pub value_of : Context → List (List Value) → Operand → Option Value
value_of c rows (Col place column) = option_and_then (λ row. slice_get row column) (slice_get rows place)
value_of c rows (Val v) = Some v
value_of c rows (Param n) = slice_get c.values n
value_of c rows (Var n) = None

-- Neither side of a comparison that is true is NULL. Equality is of any other values, and order of whole numbers alone.
abbrev pub Compares : Op → Value → Value → Type 0
Compares Eq a b = (a ≢ Null) × (a ≡ b)
Compares Ne a b = (a ≢ Null) × (b ≢ Null) × (a ≢ b)
Compares Lt (Int n) (Int m) = n <ℤ m
Compares Lt _ _ = ⊥
Compares Le (Int n) (Int m) = n ≤ℤ m
Compares Le _ _ = ⊥
Compares IsNull a b = a ≡ Null
Compares NotNull a b = a ≢ Null

-- the atom is true of one row for each place
pub record Holds (c : Context) (rows : List (List Value)) (atom : Atom) : Type 0 where
  pub left : Value
  pub right : Value
  pub left_is : value_of c rows atom.left ≡ Some left
  pub right_is : value_of c rows atom.right ≡ Some right
  pub compared : Compares atom.op left right

-- the part gives r from these rows, one for each place: they make every atom true, and its head is r
pub record Gives (c : Context) (rows : List (List Value)) (part : Part) (r : List Value) : Type 0 where
  pub conds : All (Holds c rows) part.conds
  pub head : map (value_of c rows) part.head ≡ map Some r

-- for each table in turn a row of it
abbrev pub IsChoice : RowSet → List ℕ → List (List Value) → Type 0
IsChoice d from rows = AllZip (λ table row. Contains (rows_of d table) row) from rows

-- the part gives r from one row of each of its tables
abbrev pub InPart : Context → RowSet → Part → List Value → Type 0
InPart c d part r = (rows : List (List Value)) × IsChoice d part.from rows × Gives c rows part r

-- some part gives r
abbrev pub InAnswer : Query → Context → RowSet → List Value → Type 0
InAnswer q c d r = (part : Part) × Contains q.parts part × InPart c d part r

-- each row of the first query is a row of the second
abbrev pub RowsWithin : Query → Query → Context → RowSet → Type 0
RowsWithin p q c d = (r : List Value) → InAnswer p c d r → InAnswer q c d r

-- the strictly rising list of exactly the query's rows
pub record IsAnswer (q : Query) (c : Context) (d : RowSet) (rows : List (List Value)) : Type 0 where
  pub rising : IsStrictlySortedBy row_cmp rows
  pub sound : (r : List Value) → Contains rows r → InAnswer q c d r
  pub complete : (r : List Value) → InAnswer q c d r → Contains rows r

-- a query has one answer
abbrev pub AnswerIsUnique : Type 0
AnswerIsUnique = (q : Query) (c : Context) (d : RowSet) (xs ys : List (List Value)) → IsAnswer q c d xs → IsAnswer q c d ys → xs ≡ ys
