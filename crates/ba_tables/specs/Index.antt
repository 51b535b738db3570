-- The values of rows on some columns, as the test of keys and links finds them.
use Rattle.std.specs.Prelude.{◌≡◌, ℕ, Bool, ◌&&◌, List, [], map, Option, Some, None, slice_get, unwrap_or, if◌then◌else◌}
use Rattle.std.specs.BTreeSet.{BTreeSet, contains}
use Rattle.std.specs.List.{list_any}
use Rattle.std.specs.Ordering.{eq_by_cmp}
use Rattle.ba_index.specs.Orders.{values_at}
use Rattle.ba_model.specs.Order.{row_cmp}
use Rattle.ba_model.specs.declared.value.Value.{Value}
use Rattle.ba_model.specs.declared.value.Value.TheVariants.{Null}
use Rattle.ba_tables.specs.Broken.{has_no_null}

-- the values of a row on the columns, with NULL for a column that isn't there
abbrev pub values_on : List Value → List ℕ → List Value
values_on row columns = map (λ column. unwrap_or (slice_get row column) Null) columns

-- the same, unless the row has a NULL there
abbrev pub key_values : List Value → List ℕ → Option (List Value)
key_values row columns = if has_no_null row columns then Some (values_on row columns) else None

-- the row has no NULL on the columns and has these values there
abbrev pub has_values : List ℕ → List Value → List Value → Bool
has_values columns values row = has_no_null row columns && eq_by_cmp row_cmp (values_on row columns) values

-- the set has just the values that some row has on the columns
pub record IsIndex (rows : List (List Value)) (columns : List ℕ) (set : BTreeSet (List Value)) : Type 0 where
  pub has : (values : List Value) → contains row_cmp set values ≡ list_any (has_values columns values) rows

-- the rows with these numbers are equal on the columns, and the first has no NULL there
abbrev pub are_twins : List (List Value) → List ℕ → ℕ → ℕ → Bool
are_twins rows columns a b = eq_by_cmp row_cmp (values_at rows columns a) (values_at rows columns b) && has_no_null (unwrap_or (slice_get rows a) []) columns
