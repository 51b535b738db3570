-- The rows of a table in the order of their values on some columns. Rows are numbered from 0.
use Rattle.std.specs.Prelude.{◌≡◌, ℕ, ◌<◌, List, All, Contains, length, Option, map, slice_get, take, unwrap_or, option_and_then, eqb}
use Rattle.std.specs.List.{IsDistinct}
use Rattle.std.specs.List.Sorted.{IsSortedByKey}
use Rattle.ba_model.specs.Meaning.{rows_of}
use Rattle.ba_model.specs.Order.{row_cmp}
use Rattle.ba_model.specs.declared.value.RowSet.{RowSet}
use Rattle.ba_model.specs.declared.value.Value.{Value}
use Rattle.ba_model.specs.declared.value.Value.TheVariants.{Null}
use Rattle.ba_index.specs.declared.order.Order.{Order}

abbrev pub or_null : Option Value → Value
or_null value = unwrap_or value Null

-- the value of a row and column, with NULL for one that isn't there
abbrev pub value_at : List (List Value) → ℕ → ℕ → Value
value_at rows number column = or_null (option_and_then (λ row. slice_get row column) (slice_get rows number))

abbrev pub values_at : List (List Value) → List ℕ → ℕ → List Value
values_at rows columns number = map (value_at rows number) columns

-- the numbers below n, each once
pub record AreNumbers (n : ℕ) (numbers : List ℕ) : Type 0 where
  pub below : All (λ number. number < n) numbers
  pub all : (number : ℕ) → number < n → Contains numbers number
  pub distinct : IsDistinct eqb numbers

-- the order has the number of each of the rows once, and their values on its columns rise
pub record IsInOrder (rows : List (List Value)) (order : Order) : Type 0 where
  pub numbers : AreNumbers (length rows) order.numbers
  pub sorted : IsSortedByKey (values_at rows order.columns) row_cmp order.numbers

-- the order is one of the rows of its table
abbrev pub IsOrderOf : RowSet → Order → Type 0
IsOrderOf d order = IsInOrder (rows_of d order.table) order

-- the row's values on the first columns, as many as the key has, are the key
abbrev pub HasFront : List (List Value) → List ℕ → List Value → ℕ → Type 0
HasFront rows columns key number = values_at rows (take (length key) columns) number ≡ key

-- the numbers of exactly the rows with this front, each once
pub record HaveFront (rows : List (List Value)) (order : Order) (key : List Value) (found : List ℕ) : Type 0 where
  pub sound : All (HasFront rows order.columns key) found
  pub below : All (λ number. number < length rows) found
  pub complete : (number : ℕ) → number < length rows → HasFront rows order.columns key number → Contains found number
  pub distinct : IsDistinct eqb found
