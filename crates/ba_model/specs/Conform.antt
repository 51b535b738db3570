-- When a database conforms to a schema.
use Rattle.std.specs.Prelude.{◌≡◌, ◌≢◌, ℕ, IsTrue, List, [], All, Contains, Some, map, slice_get}
use Rattle.std.specs.List.{AllZip}
use Rattle.ba_model.specs.Meaning.{rows_of, RowsWithin}
use Rattle.ba_model.specs.declared.policy.Context.{Context}
use Rattle.ba_model.specs.declared.schema.Column.{Column}
use Rattle.ba_model.specs.declared.schema.Kind.{Kind}
use Rattle.ba_model.specs.declared.schema.Kind.TheVariants.{Int as IntKind, Text as TextKind}
use Rattle.ba_model.specs.declared.schema.Link.{Link}
use Rattle.ba_model.specs.declared.schema.Rule.{Rule}
use Rattle.ba_model.specs.declared.schema.Schema.{Schema}
use Rattle.ba_model.specs.declared.schema.Table.{Table}
use Rattle.ba_model.specs.declared.value.RowSet.{RowSet}
use Rattle.ba_model.specs.declared.value.Value.{Value}
use Rattle.ba_model.specs.declared.value.Value.TheVariants.{Null, Int, Text}

-- the value is of the kind; NULL is of none
abbrev pub IsOfKind : Kind → Value → Type 0
IsOfKind k Null = ⊥
IsOfKind IntKind (Int n) = Unit {0}
IsOfKind TextKind (Text t) = Unit {0}
IsOfKind IntKind (Text t) = ⊥
IsOfKind TextKind (Int n) = ⊥

-- the value may stand in the column: it is of its kind, or NULL where that may be
abbrev pub IsOfColumn : Column → Value → Type 0
IsOfColumn column Null = IsTrue column.nullable
IsOfColumn column (Int n) = IsOfKind column.kind (Int n)
IsOfColumn column (Text t) = IsOfKind column.kind (Text t)

-- the row has the table's width, and its values may stand in the columns
abbrev pub RowFits : Table → List Value → Type 0
RowFits table row = AllZip IsOfColumn table.columns row

-- the rows are equal on the columns
abbrev pub Match : List Value → List ℕ → List Value → List ℕ → Type 0
Match r columns s others = map (slice_get r) columns ≡ map (slice_get s) others

-- no value of the row on these columns is NULL
abbrev pub NoNull : List Value → List ℕ → Type 0
NoNull r columns = All (λ column. slice_get r column ≢ Some Null) columns

-- rows that are equal on the key and have no NULL there are equal
abbrev pub KeyHolds : List (List Value) → List ℕ → Type 0
KeyHolds rows key = (r s : List Value) → Contains rows r → Contains rows s → NoNull r key → Match r key s key → r ≡ s

-- each row that has no NULL on the link's columns has a row of the target that is equal there
abbrev pub LinkHolds : RowSet → List (List Value) → Link → Type 0
LinkHolds d rows link =
    (r : List Value) → Contains rows r → NoNull r link.columns → (s : List Value) × Contains (rows_of d link.target) s × Match r link.columns s link.target_columns

-- the rows of one table
pub record TableConforms (d : RowSet) (table : Table) (rows : List (List Value)) : Type 0 where
  pub kinds : All (RowFits table) rows
  pub keys : All (KeyHolds rows) table.keys
  pub links : All (LinkHolds d rows) table.links

-- no parameters
abbrev pub no_context : Context
no_context = record { values = [] }

-- each row of the rule's left query is a row of its right query
abbrev pub RuleHolds : RowSet → Rule → Type 0
RuleHolds d rule = RowsWithin rule.left rule.right no_context d

-- the database has the rows of each table of the schema, each of them conforms, and the rules hold
pub record Conforms (s : Schema) (d : RowSet) : Type 0 where
  pub tables : AllZip (TableConforms d) s.tables d.tables
  pub rules : All (RuleHolds d) s.rules
