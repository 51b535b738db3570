-- The faults of a schema's tables, in the order in which they are told.
use Rattle.std.specs.Prelude.{◌≡◌, ℕ, ◌<◌, Bool, true, not, ◌&&◌, ◌==◌, nat_eq, nat_lt, All, List, [], ◌∷◌, Option, Some, None, is_some, if◌then◌else◌, length, map, option_map, slice_get}
use Rattle.std.specs.Cmp.Lexicographic.{pointwise}
use Rattle.std.specs.List.{IsDistinct, list_all}
use Rattle.ba_model.specs.Limits.{limit_of, most_columns, most_keys, most_links, most_tables}
use Rattle.ba_model.specs.QueryFaults.{agree, is_empty}
use Rattle.ba_model.specs.declared.limits.Counted.{Counted}
use Rattle.ba_model.specs.declared.limits.Counted.TheVariants.{Tables, Columns, Keys, Links}
use Rattle.ba_model.specs.declared.check_schema.SchemaFault.{SchemaFault}
use Rattle.ba_model.specs.declared.check_schema.SchemaFault.TheVariants.{DuplicateTable, DuplicateColumn, UnknownTable, UnknownColumn, WidthDiffers, KindDiffers, EmptyKey, TooMany, Rule}
use Rattle.ba_model.specs.declared.schema.Column.{Column}
use Rattle.ba_model.specs.declared.schema.Kind.{Kind}
use Rattle.ba_model.specs.declared.schema.Link.{Link}
use Rattle.ba_model.specs.declared.schema.Table.{Table}

-- no two names are the same
abbrev pub AreDistinct : List (List ℕ) → Type 0
AreDistinct names = IsDistinct (pointwise nat_eq) names

abbrev pub table_names : List Table → List (List ℕ)
table_names tables = map (λ table. table.name) tables

abbrev pub column_names : List Column → List (List ℕ)
column_names columns = map (λ column. column.name) columns

-- ---- DuplicateColumn: no two columns of a table have one name, and no key repeats a column

pub record ColumnsDistinct (table : Table) : Type 0 where
  pub names : AreDistinct (column_names table.columns)
  pub keys : All (IsDistinct nat_eq) table.keys

-- ---- UnknownTable: the target of each link is there

abbrev pub targets_there : List Table → Table → Bool
targets_there tables table = list_all (λ link. is_some (slice_get tables link.target)) table.links

-- ---- UnknownColumn: each column of a key and of a link is there, and each target column in the target table

abbrev pub columns_or : Option Table → List Column
columns_or None = []
columns_or (Some table) = table.columns

abbrev pub columns_of : List Table → ℕ → List Column
columns_of tables n = columns_or (slice_get tables n)

abbrev pub has_columns : List Column → List ℕ → Bool
has_columns columns numbers = list_all (λ n. is_some (slice_get columns n)) numbers

abbrev pub link_columns_there : List Table → Table → Link → Bool
link_columns_there tables table link = has_columns table.columns link.columns && has_columns (columns_of tables link.target) link.target_columns

abbrev pub columns_there : List Table → Table → Bool
columns_there tables table = list_all (has_columns table.columns) table.keys && list_all (link_columns_there tables table) table.links

-- ---- WidthDiffers: a link has as many target columns as columns

abbrev pub widths_agree : Table → Bool
widths_agree table = list_all (λ link. length link.columns == length link.target_columns) table.links

-- ---- KindDiffers: each column of a link and its target column are of one kind

abbrev pub kind_at : List Column → ℕ → Option Kind
kind_at columns n = option_map (λ column. column.kind) (slice_get columns n)

abbrev pub kinds_match : List Column → List Column → List ℕ → List ℕ → Bool
kinds_match columns others [] ms = true
kinds_match columns others (n ∷ ns) [] = true
kinds_match columns others (n ∷ ns) (m ∷ ms) = agree (kind_at columns n) (kind_at others m) && kinds_match columns others ns ms

abbrev pub link_kinds : List Table → Table → Link → Bool
link_kinds tables table link = kinds_match table.columns (columns_of tables link.target) link.columns link.target_columns

abbrev pub kinds_agree : List Table → Table → Bool
kinds_agree tables table = list_all (link_kinds tables table) table.links

-- ---- EmptyKey: no key and no link is without a column

abbrev pub some_columns : Table → Bool
some_columns table = list_all (λ key. not (is_empty key)) table.keys && list_all (λ link. not (is_empty link.columns)) table.links

-- ---- TooMany: the first count above its limit: of the tables, then table by table of its columns, keys and links

abbrev pub table_excess : Table → Option Counted
table_excess table =
    if nat_lt most_columns (length table.columns) then Some Columns
    else if nat_lt most_keys (length table.keys) then Some Keys
    else if nat_lt most_links (length table.links) then Some Links else None

abbrev pub or_else : Option Counted → Option Counted → Option Counted
or_else None o = o
or_else (Some what) o = Some what

abbrev pub tables_excess : List Table → Option Counted
tables_excess [] = None
tables_excess (table ∷ tables) = or_else (table_excess table) (tables_excess tables)

abbrev pub excess : List Table → Option Counted
excess tables = if nat_lt most_tables (length tables) then Some Tables else tables_excess tables

-- ---- the order

-- the tables are without the fault; no table has one of a rule
abbrev pub Lacks : SchemaFault → List Table → Type 0
Lacks DuplicateTable tables = AreDistinct (table_names tables)
Lacks DuplicateColumn tables = All ColumnsDistinct tables
Lacks UnknownTable tables = list_all (targets_there tables) tables ≡ true
Lacks UnknownColumn tables = list_all (columns_there tables) tables ≡ true
Lacks WidthDiffers tables = list_all widths_agree tables ≡ true
Lacks KindDiffers tables = list_all (kinds_agree tables) tables ≡ true
Lacks EmptyKey tables = list_all some_columns tables ≡ true
Lacks (TooMany what limit) tables = excess tables ≡ None
Lacks (Rule rule fault) tables = Unit {0}

-- the tables have the fault; of counts above their limits that is the first
abbrev pub Has : SchemaFault → List Table → Type 0
Has DuplicateTable tables = ¬ Lacks DuplicateTable tables
Has DuplicateColumn tables = ¬ Lacks DuplicateColumn tables
Has UnknownTable tables = ¬ Lacks UnknownTable tables
Has UnknownColumn tables = ¬ Lacks UnknownColumn tables
Has WidthDiffers tables = ¬ Lacks WidthDiffers tables
Has KindDiffers tables = ¬ Lacks KindDiffers tables
Has EmptyKey tables = ¬ Lacks EmptyKey tables
Has (TooMany what limit) tables = (excess tables ≡ Some what) × (limit ≡ limit_of what)
Has (Rule rule fault) tables = ⊥

-- where a fault stands in the order
abbrev pub rank : SchemaFault → ℕ
rank DuplicateTable = 0
rank DuplicateColumn = 1
rank UnknownTable = 2
rank UnknownColumn = 3
rank WidthDiffers = 4
rank KindDiffers = 5
rank EmptyKey = 6
rank (TooMany what limit) = 7
rank (Rule rule fault) = 8

-- the first fault of the order that the tables have
pub record IsFirstFault (f : SchemaFault) (tables : List Table) : Type 0 where
  pub has : Has f tables
  pub first : (g : SchemaFault) → rank g < rank f → Lacks g tables

-- well formed and within the limits: none of the faults
pub record AreTables (tables : List Table) : Type 0 where
  pub lacks : (f : SchemaFault) → Lacks f tables
