-- What it means that a table's file has a fault.
use Rattle.std.specs.Prelude.{◌≡◌, ◌≢◌, ◌↔◌, ◌<◌, ◌+◌, ℕ, ℤ, List, ◌∷◌, ◌++◌, length, take, Some, Err, All, slice_get}
use Rattle.std.specs.List.{AllZip}
use Rattle.std.specs.Str.{IsUtf8}
use Rattle.csv.specs.Reading.{default_config, records, strip_bom}
use Rattle.ba_model.specs.declared.schema.Column.{Column}
use Rattle.ba_model.specs.declared.schema.Kind.TheVariants.{Int as IntKind}
use Rattle.ba_model.specs.declared.schema.Table.{Table}
use Rattle.ba_model.specs.declared.value.Value.{Value}
use Rattle.ba_model.specs.Limits.{most_rows}
use Rattle.ba_tables.specs.Spelling.{SaysNull, SpellsNumber, SpellsRow}
use Rattle.ba_tables.specs.TableFile.{names_of, rows_of_file}
use Rattle.ba_tables.specs.declared.fault.TableFault.TheVariants.{BadHeader, BadWidth, BadUtf8, BadNumber, TooMany}

-- there is no first record, or it isn't exactly the names of the columns
pub record HasBadHeader (table : Table) (bytes : List ℕ) : Type 0 where
  pub none : (lines : List (List (List ℕ))) → records default_config (strip_bom bytes) ≢ names_of table.columns ∷ lines

-- ---- a bad record

abbrev pub HasOtherWidth : List Column → List (List ℕ) → Type 0
HasOtherWidth columns line = length line ≢ length columns

-- of the width, but not UTF-8
pub record IsNoText (columns : List Column) (line : List (List ℕ)) : Type 0 where
  pub width : length line ≡ length columns
  pub no_text : ¬ All IsUtf8 line

-- Of the width and UTF-8. The column k is one of numbers, and its field spells none and doesn't say NULL; the fields before it spell
-- values of their columns.
pub record LacksNumber (k : ℕ) (columns : List Column) (line : List (List ℕ)) : Type 0 where
  pub width : length line ≡ length columns
  pub text : All IsUtf8 line
  pub column : Column
  pub field : List ℕ
  pub is_column : slice_get columns k ≡ Some column
  pub is_field : slice_get line k ≡ Some field
  pub kind : column.kind ≡ IntKind
  pub no_null : ¬ SaysNull column field
  pub no_number : (n : ℤ) → ¬ SpellsNumber field n
  pub values : List Value
  pub earlier : SpellsRow (take k columns) (take k line) values

-- ---- the first bad row of a file

-- the header is right, the records before this one spell rows, and this one, of the row with this number, is bad
pub record IsFirstBad (Bad : List Column → List (List ℕ) → Type 0) (table : Table) (bytes : List ℕ) (row : ℕ) : Type 0 where
  pub before : List (List (List ℕ))
  pub line : List (List ℕ)
  pub after : List (List (List ℕ))
  pub are : records default_config (strip_bom bytes) ≡ names_of table.columns ∷ (before ++ line ∷ after)
  pub rows : List (List Value)
  pub earlier : AllZip (SpellsRow table.columns) before rows
  pub number : row ≡ length before + 1
  pub bad : Bad table.columns line

-- the header is right, each record spells a row, and there are too many
pub record HasTooMany (table : Table) (bytes : List ℕ) : Type 0 where
  pub lines : List (List (List ℕ))
  pub header : records default_config (strip_bom bytes) ≡ names_of table.columns ∷ lines
  pub rows : List (List Value)
  pub rows_are : AllZip (SpellsRow table.columns) lines rows
  pub many : most_rows < length rows

-- ---- the laws: each fault is told exactly where the file has it as its first

abbrev pub TellsHeader : Type 0
TellsHeader = (table : Table) (bytes : List ℕ) → (rows_of_file table bytes ≡ Err BadHeader) ↔ HasBadHeader table bytes

abbrev pub TellsWidth : Type 0
TellsWidth = (table : Table) (bytes : List ℕ) (row : ℕ) → (rows_of_file table bytes ≡ Err (BadWidth row)) ↔ IsFirstBad HasOtherWidth table bytes row

abbrev pub TellsUtf8 : Type 0
TellsUtf8 = (table : Table) (bytes : List ℕ) (row : ℕ) → (rows_of_file table bytes ≡ Err (BadUtf8 row)) ↔ IsFirstBad IsNoText table bytes row

abbrev pub TellsNumber : Type 0
TellsNumber = (table : Table) (bytes : List ℕ) (row column : ℕ)
    → (rows_of_file table bytes ≡ Err (BadNumber row column)) ↔ IsFirstBad (LacksNumber column) table bytes row

abbrev pub TellsTooMany : Type 0
TellsTooMany = (table : Table) (bytes : List ℕ) (limit : ℕ) → (rows_of_file table bytes ≡ Err (TooMany limit)) ↔ ((limit ≡ most_rows) × HasTooMany table bytes)
