-- Which names of tables and columns a database keeps, and tells apart.
use Rattle.std.specs.Prelude.{◌≡◌, ◌≢◌, ℕ, IsTrue, Bool, true, ◌&&◌, nat_le, List, [], ◌∷◌, All, Contains, length, map, Option, Some, None, ⊤}
use Rattle.std.specs.Char.{to_ascii_lowercase}
use Rattle.ba_lex.specs.Spelling.{are_name_bytes}
use Rattle.ba_model.specs.SchemaFaults.{column_names, table_names}
use Rattle.ba_model.specs.declared.schema.Schema.{Schema}
use Rattle.ba_model.specs.declared.schema.Table.{Table}
use Rattle.ba_target.specs.declared.names.Misnamed.{Misnamed}
use Rattle.ba_target.specs.declared.names.Misnamed.TheVariants.{Unnameable, Alike}
use Rattle.ba_target.specs.declared.target.Database.{Database}
use Rattle.ba_target.specs.declared.target.Database.TheVariants.{PostgreSql, Sqlite, MySql}
use Rattle.ba_target.specs.declared.target.Target.{Target}

-- PostgreSQL cuts a longer name off, MySQL refuses it; SQLite has no limit, and what is none here
abbrev pub most_bytes : Database → ℕ
most_bytes PostgreSql = 63
most_bytes Sqlite = 65536
most_bytes MySql = 64

-- a name in quotes is read as it stands: bytes 0x20 to 0x7E but for `"` and the backquote, and not
-- too many
abbrev pub can_name : Database → List ℕ → Bool
can_name database name = are_name_bytes name && nat_le (length name) (most_bytes database)

-- what the database compares of a name in quotes: PostgreSQL the name, the others without regard to
-- the case of its letters
abbrev pub compared : Database → List ℕ → List ℕ
compared PostgreSql name = name
compared Sqlite name = map to_ascii_lowercase name
compared MySql name = map to_ascii_lowercase name

-- the database tells the name from each of the others
abbrev pub IsApart : Database → List ℕ → List (List ℕ) → Type 0
IsApart database name others =
    All (λ other. compared database name ≢ compared database other) others

-- no two of the names are one for it: each is told from those behind it
abbrev pub AreApart : Database → List (List ℕ) → Type 0
AreApart database [] = ⊤
AreApart database (name ∷ names) = IsApart database name names × AreApart database names

-- the database keeps the table's names, and tells its columns apart
pub record ServesTable (database : Database) (table : Table) : Type 0 where
  pub name : IsTrue (can_name database table.name)
  pub columns : All (λ column. IsTrue (can_name database column.name)) table.columns
  pub apart : AreApart database (column_names table.columns)

-- it keeps the namespace's name, if there is one
abbrev pub ServesNamespace : Target → Option (List ℕ) → Type 0
ServesNamespace target None = ⊤
ServesNamespace target (Some name) = IsTrue (can_name target.database name)

-- The database keeps all names of the schema, and tells its tables apart, and the columns of each.
pub record Serves (target : Target) (schema : Schema) : Type 0 where
  pub namespace : ServesNamespace target target.namespace
  pub tables : All (ServesTable target.database) schema.tables
  pub apart : AreApart target.database (table_names schema.tables)

-- ---- why it can't be served

-- the database keeps no such name
abbrev pub IsNone : Database → List ℕ → Misnamed → Type 0
IsNone database name fault = (fault ≡ Unnameable name) × (can_name database name ≢ true)

-- it keeps no such name as one of these
abbrev pub IsNoneOf : Database → List (List ℕ) → Misnamed → Type 0
IsNoneOf database names fault =
    (name : List ℕ) × Contains names name × IsNone database name fault

-- one stands before the other in the list, and they are one for the database
pub data AreAlike (database : Database) (one other : List ℕ) : List (List ℕ) → Type 0 where
  first : {names : List (List ℕ)} → Contains names other →
      compared database one ≡ compared database other → AreAlike database one other (one ∷ names)
  later : {name : List ℕ} {names : List (List ℕ)} → AreAlike database one other names →
      AreAlike database one other (name ∷ names)

-- two of the names are one for it
abbrev pub IsAlikeIn : Database → List (List ℕ) → Misnamed → Type 0
IsAlikeIn database names fault =
    (one : List ℕ) × (other : List ℕ) × (fault ≡ Alike one other) ×
    AreAlike database one other names

-- The database doesn't keep the table's name, or that of a column, or two columns are one for it.
pub data MisnamesTable (database : Database) (table : Table) (fault : Misnamed) : Type 0 where
  name : IsNone database table.name fault → MisnamesTable database table fault
  column : IsNoneOf database (column_names table.columns) fault → MisnamesTable database table fault
  columns : IsAlikeIn database (column_names table.columns) fault →
      MisnamesTable database table fault

abbrev pub MisnamesOneOf : Database → List Table → Misnamed → Type 0
MisnamesOneOf database tables fault =
    (table : Table) × Contains tables table × MisnamesTable database table fault

-- it doesn't keep the namespace's name
abbrev pub MisnamesNamespace : Target → Misnamed → Type 0
MisnamesNamespace target fault =
    (name : List ℕ) × (target.namespace ≡ Some name) × IsNone target.database name fault

-- The database doesn't keep the namespace's name, or can't serve a table, or two tables are one for
-- it.
pub data Misnames (target : Target) (schema : Schema) (fault : Misnamed) : Type 0 where
  namespace : MisnamesNamespace target fault → Misnames target schema fault
  table : MisnamesOneOf target.database schema.tables fault → Misnames target schema fault
  tables : IsAlikeIn target.database (table_names schema.tables) fault → Misnames target schema fault
