-- Names by their numbers.
use Rattle.std.specs.Prelude.{ℕ, ◌+◌, Bool, nat_eq, min, List, [], length, Option, Some, None, position, slice_get}
use Rattle.std.specs.Cmp.Lexicographic.{pointwise}
use Rattle.indexmap.specs.IndexSet.{insert_all}

abbrev pub same_name : List ℕ → List ℕ → Bool
same_name = pointwise nat_eq

-- each name once, where it stands first
abbrev pub once : List (List ℕ) → List (List ℕ)
once names = insert_all same_name [] names

abbrev pub or_number : Option ℕ → ℕ → ℕ
or_number (Some n) other = n
or_number None other = other

-- where a name stands among names, or their count if it isn't there
abbrev pub place : List (List ℕ) → List ℕ → ℕ
place names name = or_number (position (same_name name) names) (length names)

-- numbers have 32 bits
abbrev pub capped : ℕ → ℕ
capped n = min n 0xffff_ffff

abbrev pub number : List (List ℕ) → List ℕ → ℕ
number names name = capped (place names name)

-- The number of a key's column. One that isn't among the columns has a number behind them, by its place among the key's own names:
-- so equal names have equal numbers, and different ones have not.
abbrev pub key_number : List (List ℕ) → List (List ℕ) → List ℕ → ℕ
key_number columns own name = capped (or_number (position (same_name name) columns) (length columns + place own name))

-- the same, of the table of this number
abbrev pub number_there : Option (List (List ℕ)) → List ℕ → ℕ
number_there (Some columns) name = number columns name
number_there None name = 0

abbrev pub number_in : List (List (List ℕ)) → ℕ → List ℕ → ℕ
number_in tables table name = number_there (slice_get tables table) name
