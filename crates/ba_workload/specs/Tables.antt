-- The tables: their rows, and their files, each a header and then a line for each row.
use Rattle.std.specs.Prelude.{ℕ, ◌+◌, ◌*◌, ◌%◌, pos, List, [], ◌∷◌, ◌++◌, codes, decimal}
use Rattle.std.specs.Fmt.{signed_decimal}
use Rattle.std.specs.List.{flat_map}
use Rattle.ba_model.specs.declared.value.RowSet.{RowSet}
use Rattle.ba_model.specs.declared.value.Value.{Value}
use Rattle.ba_model.specs.declared.value.Value.TheVariants.{Null, Int, Text}
use Rattle.ba_workload.specs.Chosen.{attended, event_of, events, users}
use Rattle.ba_workload.specs.Lists.{all_of, each_of}

-- ---- rows

-- a letter and a number
abbrev pub named : List ℕ → ℕ → Value
named letter n = Text (letter ++ decimal n)

-- user u is called `u` and the number
unfoldable pub user_row : ℕ → List Value
user_row u = Int (pos u) ∷ named (codes "u") u ∷ []

-- from 10 to 70 minutes
abbrev pub duration_of : ℕ → ℕ
duration_of e = e % 7 * 10 + 10

-- event e is called `e` and the number
unfoldable pub event_row : ℕ → List Value
event_row e = Int (pos e) ∷ named (codes "e") e ∷ Int (pos (duration_of e)) ∷ []

-- when user u attends an event for the j-th time, from 0
abbrev pub time_of : ℕ → ℕ → ℕ
time_of u j = 100 * u + j

unfoldable pub attendance_row : ℕ → ℕ → List Value
attendance_row u j = Int (pos u) ∷ Int (pos (event_of u j)) ∷ Int (pos (time_of u j)) ∷ []

abbrev pub user_rows : List (List Value)
user_rows = each_of user_row 1 users

abbrev pub event_rows : List (List Value)
event_rows = each_of event_row 1 events

-- a user's attendances, in order
abbrev pub attendances_of : ℕ → List (List Value)
attendances_of u = each_of (attendance_row u) 0 attended

abbrev pub attendance_rows : List (List Value)
attendance_rows = all_of attendances_of 1 users

-- the rows of Users, Events and Attendances
abbrev pub tables : RowSet
tables = record { tables = user_rows ∷ event_rows ∷ attendance_rows ∷ [] }

-- ---- files

-- NULL is `\N`
abbrev pub field_of : Value → List ℕ
field_of Null = codes "\\N"
field_of (Int n) = signed_decimal n
field_of (Text s) = s

-- a field behind a comma
abbrev pub next_field : Value → List ℕ
next_field v = 44 ∷ field_of v

-- the fields of a row with commas between them
abbrev pub fields_of : List Value → List ℕ
fields_of [] = []
fields_of (v ∷ vs) = field_of v ++ flat_map next_field vs

abbrev pub line_of : List Value → List ℕ
line_of row = fields_of row ++ 10 ∷ []

abbrev pub lines_of : List (List Value) → List ℕ
lines_of rows = flat_map line_of rows

unfoldable pub users_text : List ℕ
users_text = codes "UId,Name\n" ++ lines_of user_rows

unfoldable pub events_text : List ℕ
events_text = codes "EId,Title,Duration\n" ++ lines_of event_rows

unfoldable pub attendances_text : List ℕ
attendances_text = codes "UId,EId,At\n" ++ lines_of attendance_rows
