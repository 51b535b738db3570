-- Rows, each once, in the order in which they come.
use Rattle.std.specs.Prelude.{◌≡◌, ◌⊎◌, ◌↔◌, List, [], ◌∷◌, ◌++◌, Contains, IsTrue}
use Rattle.std.specs.BTreeSet.{BTreeSet, IsEmpty, contains}
use Rattle.std.specs.List.Sorted.{IsStrictlySortedBy}
use Rattle.ba_model.specs.Order.{row_cmp}
use Rattle.ba_model.specs.declared.value.Value.{Value}

-- the rows with one more, last, unless it is among them
abbrev pub IsWith : List (List Value) → List Value → List (List Value) → Type 0
IsWith rows r new =
    (Contains rows r × (new ≡ rows)) ⊎ ((¬ (Contains rows r)) × (new ≡ rows ++ r ∷ []))

-- the set has exactly these rows
abbrev pub IsSetOf : List (List Value) → BTreeSet (List Value) → Type 0
IsSetOf rows set = (r : List Value) → IsTrue (contains row_cmp set r) ↔ Contains rows r

-- The set has exactly these rows, or it is empty, and they are strictly rising.
abbrev pub AreSeen : List (List Value) → BTreeSet (List Value) → Type 0
AreSeen rows set = IsSetOf rows set ⊎ (IsEmpty set × IsStrictlySortedBy row_cmp rows)
