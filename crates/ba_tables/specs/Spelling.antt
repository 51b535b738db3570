-- What it means that a file spells rows.
use Rattle.std.specs.Prelude.{◌≡◌, ◌⊎◌, ◌↔◌, ◌<◌, ◌≤◌, ◌^◌, ℕ, ℤ, pos, neg_ℤ, List, [], ◌∷◌, length, IsTrue, Ok}
use Rattle.std.specs.List.{AllZip}
use Rattle.std.specs.Str.{IsUtf8, all_ascii_digits}
use Rattle.std.specs.Str.Parse.{digits_value}
use Rattle.csv.specs.Reading.{default_config, records, strip_bom}
use Rattle.ba_model.specs.declared.schema.Column.{Column}
use Rattle.ba_model.specs.declared.schema.Kind.{Kind}
use Rattle.ba_model.specs.declared.schema.Kind.TheVariants.{Int as IntKind, Text as TextKind}
use Rattle.ba_model.specs.declared.schema.Table.{Table}
use Rattle.ba_model.specs.declared.value.Value.{Value}
use Rattle.ba_model.specs.declared.value.Value.TheVariants.{Null, Int, Text}
use Rattle.ba_model.specs.Limits.{most_rows}
use Rattle.ba_tables.specs.TableFile.{names_of, null_field, rows_of_file}

-- one digit or more and nothing else
pub record IsDigits (text : List ℕ) : Type 0 where
  pub some_digit : 0 < length text
  pub digits : IsTrue (all_ascii_digits text)

-- the digits spell a number of at most 2^63 - 1
pub record SpellsPlain (field : List ℕ) (n : ℤ) : Type 0 where
  pub digits : IsDigits field
  pub value : n ≡ pos (digits_value 10 field)
  pub fits : digits_value 10 field < 2 ^ 63

-- a minus sign and then digits spell a number of at least -2^63
pub record SpellsMinus (field : List ℕ) (n : ℤ) : Type 0 where
  pub rest : List ℕ
  pub sign : field ≡ 45 ∷ rest
  pub digits : IsDigits rest
  pub value : n ≡ neg_ℤ (pos (digits_value 10 rest))
  pub fits : digits_value 10 rest ≤ 2 ^ 63

abbrev pub SpellsNumber : List ℕ → ℤ → Type 0
SpellsNumber field n = SpellsPlain field n ⊎ SpellsMinus field n

-- of numbers an empty field or `\N`, of texts `\N` alone
abbrev pub IsNullText : Kind → List ℕ → Type 0
IsNullText IntKind field = (field ≡ []) ⊎ (field ≡ null_field)
IsNullText TextKind field = field ≡ null_field

-- the field says NULL: the column may hold it, and it is spelled so
pub record SaysNull (column : Column) (field : List ℕ) : Type 0 where
  pub may_be : IsTrue column.nullable
  pub spelled : IsNullText column.kind field

-- the field spells the value of this kind
abbrev pub SpellsOfKind : Kind → List ℕ → Value → Type 0
SpellsOfKind IntKind field value = (n : ℤ) × SpellsNumber field n × (value ≡ Int n)
SpellsOfKind TextKind field value = IsUtf8 field × (value ≡ Text field)

-- the field of the column spells the value: NULL where it says so, and else a value of the column's kind
abbrev pub Spells : Column → List ℕ → Value → Type 0
Spells column field value = (SaysNull column field × (value ≡ Null)) ⊎ ((¬ SaysNull column field) × SpellsOfKind column.kind field value)

-- the fields spell the row, column by column
abbrev pub SpellsRow : List Column → List (List ℕ) → List Value → Type 0
SpellsRow [] [] [] = Unit {0}
SpellsRow [] [] (value ∷ row) = ⊥
SpellsRow [] (field ∷ line) row = ⊥
SpellsRow (c ∷ columns) [] row = ⊥
SpellsRow (c ∷ columns) (field ∷ line) [] = ⊥
SpellsRow (c ∷ columns) (field ∷ line) (value ∷ row) = Spells c field value × SpellsRow columns line row

-- The file's records, as CSV gives them, are the column names and then one for each row. There are at most 100,000 rows.
pub record SpellsTable (table : Table) (bytes : List ℕ) (rows : List (List Value)) : Type 0 where
  pub lines : List (List (List ℕ))
  pub header : records default_config (strip_bom bytes) ≡ names_of table.columns ∷ lines
  pub rows_are : AllZip (SpellsRow table.columns) lines rows
  pub few : length rows ≤ most_rows

-- a file reads as rows exactly where it spells them
abbrev pub ReadsAsSpelled : Type 0
ReadsAsSpelled = (table : Table) (bytes : List ℕ) (rows : List (List Value)) → (rows_of_file table bytes ≡ Ok rows) ↔ SpellsTable table bytes rows

-- and as one list of rows at most
abbrev pub RowsAreUnique : Type 0
RowsAreUnique = (table : Table) (bytes : List ℕ) (rows others : List (List Value)) → SpellsTable table bytes rows → SpellsTable table bytes others → rows ≡ others
