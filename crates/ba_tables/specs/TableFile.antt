-- What a table's file reads as.
use Rattle.std.specs.Prelude.{ℕ, ◌+◌, ◌-◌, ◌^◌, ℤ, pos, neg_ℤ, Bool, not, ◌&&◌, ◌||◌, ◌==◌, nat_lt, nat_le, List, [], ◌∷◌, drop, map, length, Option, Some, None, option_map, ok_or, Result, Ok, Err, codes, if◌then◌else◌}
use Rattle.std.specs.Cmp.Lexicographic.{pointwise}
use Rattle.std.specs.List.{list_all}
use Rattle.std.specs.Str.{all_ascii_digits, bytes_eq, is_utf8}
use Rattle.std.specs.Str.Parse.{digits_value, starts_with_minus}
use Rattle.csv.specs.Reading.{default_config, records, strip_bom}
use Rattle.ba_model.specs.Readings.{◌>>=◌}
use Rattle.ba_model.specs.Limits.{most_rows}
use Rattle.ba_model.specs.declared.schema.Column.{Column}
use Rattle.ba_model.specs.declared.schema.Kind.{Kind}
use Rattle.ba_model.specs.declared.schema.Kind.TheVariants.{Int as IntKind, Text as TextKind}
use Rattle.ba_model.specs.declared.schema.Table.{Table}
use Rattle.ba_model.specs.declared.value.Value.{Value}
use Rattle.ba_model.specs.declared.value.Value.TheVariants.{Null, Int, Text}
use Rattle.ba_tables.specs.declared.fault.TableFault.{TableFault}
use Rattle.ba_tables.specs.declared.fault.TableFault.TheVariants.{BadHeader, BadWidth, BadUtf8, BadNumber, TooMany}

-- the number that a text spells which is one digit or more and nothing else, where it is at most `most`
abbrev pub digits_up_to : ℕ → List ℕ → Option ℕ
digits_up_to most text = if nat_lt 0 (length text) && all_ascii_digits text && nat_le (digits_value 10 text) most then Some (digits_value 10 text) else None

-- a minus sign or nothing, then digits, in 64 bits; leading zeros are allowed
unfoldable pub number_of : List ℕ → Option ℤ
number_of field =
    if starts_with_minus field then option_map (λ n. neg_ℤ (pos n)) (digits_up_to (2 ^ 63) (drop 1 field))
    else option_map (λ n. pos n) (digits_up_to (2 ^ 63 - 1) field)

-- `\N`
abbrev pub null_field : List ℕ
null_field = codes "\\N"

-- what may say NULL: `\N`, and of numbers nothing, too
abbrev pub is_null_text : Kind → List ℕ → Bool
is_null_text IntKind field = (length field == 0) || bytes_eq field null_field
is_null_text TextKind field = bytes_eq field null_field

-- the field says NULL: in a column that may hold it
abbrev pub says_null : Column → List ℕ → Bool
says_null column field = column.nullable && is_null_text column.kind field

-- the value of the field of a row and column that doesn't say NULL, by the column's kind
abbrev pub some_value : ℕ → ℕ → Kind → List ℕ → Result Value TableFault
some_value row place IntKind field = ok_or (option_map Int (number_of field)) (BadNumber row place)
some_value row place TextKind field = Ok (Text field)

-- the value of the field of a row and column
unfoldable pub value_at : ℕ → ℕ → Column → List ℕ → Result Value TableFault
value_at row place column field = if says_null column field then Ok Null else some_value row place column.kind field

-- the values of the columns from a number on
unfoldable pub values_from : ℕ → ℕ → List Column → List (List ℕ) → Result (List Value) TableFault
values_from row place [] fields = Ok []
values_from row place (column ∷ columns) [] = Ok []
values_from row place (column ∷ columns) (field ∷ fields) = do
  value ← value_at row place column field
  values ← values_from row (place + 1) columns fields
  Ok (value ∷ values)

-- a row is tested for its width, then for UTF-8, then for its numbers; NULL is none that is tested
unfoldable pub row_at : ℕ → List Column → List (List ℕ) → Result (List Value) TableFault
row_at row columns fields =
    if not (length fields == length columns) then Err (BadWidth row)
    else if not (list_all is_utf8 fields) then Err (BadUtf8 row)
    else values_from row 0 columns fields

-- the rows from a number on, or the fault of the first bad one
unfoldable pub rows_from : ℕ → List Column → List (List (List ℕ)) → Result (List (List Value)) TableFault
rows_from row columns [] = Ok []
rows_from row columns (line ∷ lines) = do
  values ← row_at row columns line
  rows ← rows_from (row + 1) columns lines
  Ok (values ∷ rows)

abbrev pub within_limit : List (List Value) → Result (List (List Value)) TableFault
within_limit rows = if nat_le (length rows) most_rows then Ok rows else Err (TooMany most_rows)

-- the rows of the records after the header
abbrev pub rows_of_rest : List Column → List (List (List ℕ)) → Result (List (List Value)) TableFault
rows_of_rest columns lines = rows_from 1 columns lines >>= within_limit

abbrev pub names_of : List Column → List (List ℕ)
names_of columns = map (λ column. column.name) columns

-- the header is exactly the names of the columns
abbrev pub is_header : List Column → List (List ℕ) → Bool
is_header columns line = pointwise bytes_eq line (names_of columns)

-- the first record is the header, and each other one is a row
unfoldable pub rows_of_lines : List Column → List (List (List ℕ)) → Result (List (List Value)) TableFault
rows_of_lines columns [] = Err BadHeader
rows_of_lines columns (line ∷ lines) = if is_header columns line then rows_of_rest columns lines else Err BadHeader

-- the rows of a table's file, whose records are as CSV gives them
unfoldable pub rows_of_file : Table → List ℕ → Result (List (List Value)) TableFault
rows_of_file table bytes = rows_of_lines table.columns (records default_config (strip_bom bytes))
