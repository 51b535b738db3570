-- What written tables mean: a draft of tables, whose names are numbers.
use Rattle.std.specs.Prelude.{ℕ, Bool, true, false, not, ◌||◌, List, [], ◌∷◌, map, is_some, position}
use Rattle.std.specs.List.{flat_map, list_any}
use Rattle.ba_model.specs.declared.schema.Column.{Column}
use Rattle.ba_model.specs.declared.schema.Kind.{Kind}
use Rattle.ba_model.specs.declared.schema.Kind.TheVariants.{Int as IntKind, Text as TextKind}
use Rattle.ba_model.specs.declared.schema.Link.{Link}
use Rattle.ba_model.specs.declared.schema.Table.{Table}
use Rattle.ba_sql_ddl.specs.Numbers.{key_number, number, number_in, once, same_name}
use Rattle.ba_sql_ddl.specs.declared.draft.Scope.{Scope}
use Rattle.ba_sql_ddl.specs.declared.written.ColumnRule.{ColumnRule}
use Rattle.ba_sql_ddl.specs.declared.written.ColumnRule.TheVariants.{NotNull, Null, PrimaryKey, Unique, References}
use Rattle.ba_sql_ddl.specs.declared.written.ColumnText.{ColumnText}
use Rattle.ba_sql_ddl.specs.declared.written.TableItem.{TableItem}
use Rattle.ba_sql_ddl.specs.declared.written.TableItem.TheVariants.{Column as ColumnItem, Constraint as ConstraintItem}
use Rattle.ba_sql_ddl.specs.declared.written.TableRule.{TableRule}
use Rattle.ba_sql_ddl.specs.declared.written.TableRule.TheVariants as table_rules
use Rattle.ba_sql_ddl.specs.declared.written.TableText.{TableText}
use Rattle.ba_sql_ddl.specs.declared.written.TypeWord.{TypeWord}
use Rattle.ba_sql_ddl.specs.declared.written.TypeWord.TheVariants.{Int, Integer, BigInt, SmallInt, Text, VarChar, Char}

-- ---- columns

abbrev pub column_in : TableItem → List ColumnText
column_in (ColumnItem c) = c ∷ []
column_in (ConstraintItem c) = []

-- the columns, in order
abbrev pub columns_in : List TableItem → List ColumnText
columns_in items = flat_map column_in items

abbrev pub name_in : TableItem → List (List ℕ)
name_in (ColumnItem c) = c.name ∷ []
name_in (ConstraintItem c) = []

-- the names of the columns, in order
abbrev pub names_in : List TableItem → List (List ℕ)
names_in items = flat_map name_in items

abbrev pub kind_of : TypeWord → Kind
kind_of Int = IntKind
kind_of Integer = IntKind
kind_of BigInt = IntKind
kind_of SmallInt = IntKind
kind_of Text = TextKind
kind_of VarChar = TextKind
kind_of Char = TextKind

-- ---- the names of the columns of PRIMARY KEYs

abbrev pub primary_of_rule : List ℕ → ColumnRule → List (List ℕ)
primary_of_rule name NotNull = []
primary_of_rule name Null = []
primary_of_rule name PrimaryKey = name ∷ []
primary_of_rule name Unique = []
primary_of_rule name (References table targets) = []

abbrev pub primary_of_table_rule : TableRule → List (List ℕ)
primary_of_table_rule (table_rules.PrimaryKey columns) = columns
primary_of_table_rule (table_rules.Unique columns) = []
primary_of_table_rule (table_rules.ForeignKey columns table targets) = []

abbrev pub primary_in : TableItem → List (List ℕ)
primary_in (ColumnItem c) = flat_map (primary_of_rule c.name) c.rules
primary_in (ConstraintItem c) = primary_of_table_rule c.rule

abbrev pub primary_names : List TableItem → List (List ℕ)
primary_names items = flat_map primary_in items

abbrev pub is_not_null_rule : ColumnRule → Bool
is_not_null_rule NotNull = true
is_not_null_rule Null = false
is_not_null_rule PrimaryKey = false
is_not_null_rule Unique = false
is_not_null_rule (References table targets) = false

-- NOT NULL, or in a PRIMARY KEY
abbrev pub is_not_null : List (List ℕ) → ColumnText → Bool
is_not_null primary c = list_any is_not_null_rule c.rules || is_some (position (same_name c.name) primary)

abbrev pub column_of : List (List ℕ) → ColumnText → Column
column_of primary c = record { name = c.name; kind = kind_of c.type_text.word; nullable = not (is_not_null primary c) }

-- ---- keys: PRIMARY KEY and UNIQUE, each by the names of its columns

abbrev pub own_keys : List ℕ → ColumnRule → List (List (List ℕ))
own_keys name NotNull = []
own_keys name Null = []
own_keys name PrimaryKey = (name ∷ []) ∷ []
own_keys name Unique = (name ∷ []) ∷ []
own_keys name (References table targets) = []

abbrev pub table_keys : TableRule → List (List (List ℕ))
table_keys (table_rules.PrimaryKey names) = names ∷ []
table_keys (table_rules.Unique names) = names ∷ []
table_keys (table_rules.ForeignKey names table targets) = []

abbrev pub keys_in : TableItem → List (List (List ℕ))
keys_in (ColumnItem c) = flat_map (own_keys c.name) c.rules
keys_in (ConstraintItem c) = table_keys c.rule

-- the same by their numbers
abbrev pub key_of : List (List ℕ) → List (List ℕ) → List ℕ
key_of columns names = map (key_number columns (once names)) names

-- ---- links, by names

pub record LinkText : Type 0 where
  pub columns : List (List ℕ)
  pub table : List ℕ
  pub targets : List (List ℕ)

abbrev pub own_links : List ℕ → ColumnRule → List LinkText
own_links name NotNull = []
own_links name Null = []
own_links name PrimaryKey = []
own_links name Unique = []
own_links name (References table targets) = record { columns = name ∷ []; table = table; targets = targets } ∷ []

abbrev pub table_links : TableRule → List LinkText
table_links (table_rules.PrimaryKey names) = []
table_links (table_rules.Unique names) = []
table_links (table_rules.ForeignKey names table targets) = record { columns = names; table = table; targets = targets } ∷ []

abbrev pub links_in : TableItem → List LinkText
links_in (ColumnItem c) = flat_map (own_links c.name) c.rules
links_in (ConstraintItem c) = table_links c.rule

-- the same by their numbers: of the tables, of the columns of the table, of the columns of the target
abbrev pub link_to : Scope → ℕ → List (List ℕ) → LinkText → Link
link_to scope target columns l = record { columns = map (number columns) l.columns; target = target; target_columns = map (number_in scope.columns target) l.targets }

abbrev pub link_of : Scope → List (List ℕ) → LinkText → Link
link_of scope columns l = link_to scope (number scope.tables l.table) columns l

-- ---- tables

abbrev pub table_with : Scope → List (List ℕ) → TableText → Table
table_with scope columns t = record {
  name = t.name;
  columns = map (column_of (once (primary_names t.items))) (columns_in t.items);
  keys = map (key_of columns) (flat_map keys_in t.items);
  links = map (link_of scope columns) (flat_map links_in t.items);
}

abbrev pub table_of : Scope → TableText → Table
table_of scope t = table_with scope (once (names_in t.items)) t

abbrev pub scope_of : List TableText → Scope
scope_of texts = record { tables = once (map (λ t. t.name) texts); columns = map (λ t. once (names_in t.items)) texts }

unfoldable pub draft_of : List TableText → List Table
draft_of texts = map (table_of (scope_of texts)) texts
