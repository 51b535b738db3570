-- The first broken key, link or rule of a schema's tables. Row numbers begin at 1.
use Rattle.std.specs.Prelude.{ℕ, ◌+◌, Bool, true, false, not, ◌&&◌, List, [], ◌∷◌, ◌++◌, map, length, Option, Some, None, option_map, slice_get}
use Rattle.std.specs.Cmp.Lexicographic.{pointwise}
use Rattle.std.specs.List.{list_all, list_any, position_from}
use Rattle.std.specs.Option.{option_eq, option_or}
use Rattle.std.specs.Ordering.{eq_by_cmp}
use Rattle.ba_model.specs.Meaning.{rows_of}
use Rattle.ba_model.specs.Order.{value_cmp}
use Rattle.ba_model.specs.declared.schema.Link.{Link}
use Rattle.ba_model.specs.declared.schema.Table.{Table}
use Rattle.ba_model.specs.declared.value.RowSet.{RowSet}
use Rattle.ba_model.specs.declared.value.Value.{Value}
use Rattle.ba_model.specs.declared.value.Value.TheVariants.{Null, Int, Text}
use Rattle.ba_tables.specs.declared.broken.TablesFault.{TablesFault}
use Rattle.ba_tables.specs.declared.broken.TablesFault.TheVariants.{KeyBroken, LinkBroken}

abbrev pub is_null : Option Value → Bool
is_null None = false
is_null (Some Null) = true
is_null (Some (Int n)) = false
is_null (Some (Text t)) = false

-- the row has no NULL on the columns
abbrev pub has_no_null : List Value → List ℕ → Bool
has_no_null row columns = list_all (λ column. not (is_null (slice_get row column))) columns

-- the rows are equal, one on these columns and the other on those
abbrev pub agrees : List Value → List ℕ → List Value → List ℕ → Bool
agrees row columns other others = pointwise (option_eq (eq_by_cmp value_cmp)) (map (slice_get row) columns) (map (slice_get other) others)

-- the row has no NULL on the key and is equal there to an earlier one
abbrev pub clashes : List ℕ → List Value → List Value → Bool
clashes key row earlier = has_no_null row key && agrees row key earlier key

-- Of the rows that clash with an earlier one the first, and before it the first that it clashes with. `before` are the rows before.
unfoldable pub clash_after : List ℕ → List (List Value) → List (List Value) → Option (ℕ × ℕ)
clash_after key before [] = None
clash_after key before (row ∷ rows) =
    option_or (option_map (λ first. (first, length before + 1)) (position_from (clashes key row) 1 before)) (clash_after key (before ++ row ∷ []) rows)

-- the row has no NULL on the link's columns, and no row of the target is equal there
abbrev pub dangles : Link → List (List Value) → List Value → Bool
dangles link targets row = has_no_null row link.columns && not (list_any (λ target. agrees row link.columns target link.target_columns) targets)

-- the first broken key of a table, from a key's number on
unfoldable pub broken_key : ℕ → ℕ → List (List Value) → List (List ℕ) → Option TablesFault
broken_key table number rows [] = None
broken_key table number rows (key ∷ keys) =
    option_or (option_map (λ p. KeyBroken table number p.0 p.1) (clash_after key [] rows)) (broken_key table (number + 1) rows keys)

-- the first broken link of a table, from a link's number on
unfoldable pub broken_link : ℕ → ℕ → RowSet → List (List Value) → List Link → Option TablesFault
broken_link table number d rows [] = None
broken_link table number d rows (link ∷ links) =
    option_or (option_map (λ row. LinkBroken table number row) (position_from (dangles link (rows_of d link.target)) 1 rows)) (broken_link table (number + 1) d rows links)

-- the first broken key or link, from a table's number on: in each table keys before links
unfoldable pub broken_table : ℕ → RowSet → List Table → List (List (List Value)) → Option TablesFault
broken_table number d [] lists = None
broken_table number d (table ∷ tables) [] = None
broken_table number d (table ∷ tables) (rows ∷ lists) =
    option_or (option_or (broken_key number 0 rows table.keys) (broken_link number 0 d rows table.links)) (broken_table (number + 1) d tables lists)
