-- A square of cells whose rows and columns are places, and the places of the nodes that were named.
use Rattle.std.specs.Prelude.{◌≡◌, ℕ, ◌+◌, ◌<◌, ◌≤◌, List, [], length, slice_index_or, Option, Some, None}
use Rattle.ba_classes.specs.declared.best.Best.{Best}
use Rattle.ba_classes.specs.declared.best.Best.TheVariants.{Absent}

-- the places of the named nodes, by the nodes' numbers, and how many there are
pub record Places : Type 0 where
  pub slots : List (Option ℕ)
  pub count : ℕ

abbrev pub place_of : Places → ℕ → Option ℕ
place_of places node = slice_index_or places.slots node None

-- the cell at two places; past the ends it is absent
abbrev pub cell_at : List (List Best) → ℕ → ℕ → Best
cell_at rows i j = slice_index_or (slice_index_or rows i []) j Absent

-- the cell at the places of two nodes; it is absent where one wasn't named
abbrev pub cell_between : List (List Best) → Option ℕ → Option ℕ → Best
cell_between rows (Some i) (Some j) = cell_at rows i j
cell_between rows (Some i) None = Absent
cell_between rows None place = Absent

abbrev pub between : Places → List (List Best) → ℕ → ℕ → Best
between places rows x y = cell_between rows (place_of places x) (place_of places y)

-- the node has the last place
pub record IsLast (places : Places) (node : ℕ) : Type 0 where
  pub place : ℕ
  pub placed : place_of places node ≡ Some place
  pub last : place + 1 ≡ places.count

-- no cell was changed
abbrev pub SameCells : List (List Best) → List (List Best) → Type 0
SameCells old new = (i j : ℕ) → cell_at new i j ≡ cell_at old i j

-- no cell at a place below the side was changed
abbrev pub SameBelow : ℕ → List (List Best) → List (List Best) → Type 0
SameBelow side old new = (i j : ℕ) → j < side → cell_at new i j ≡ cell_at old i j

-- a cell that was absent is absent
abbrev pub NoneNew : List (List Best) → List (List Best) → Type 0
NoneNew old new = (i j : ℕ) → cell_at old i j ≡ Absent → cell_at new i j ≡ Absent

-- the cells from the side on are absent
abbrev pub NonePast : ℕ → List (List Best) → Type 0
NonePast side rows = (i j : ℕ) → side ≤ j → cell_at rows i j ≡ Absent

-- the named nodes have different places, the first so many; there are rows for them, and other
-- rows are empty. Cells past the last place may be left from nodes that gave theirs back
pub record IsGrid (places : Places) (rows : List (List Best)) : Type 0 where
  pub below : (x p : ℕ) → place_of places x ≡ Some p → p < places.count
  pub apart : (x y p : ℕ) → place_of places x ≡ Some p → place_of places y ≡ Some p → x ≡ y
  pub tall : places.count ≤ length rows
  pub no_row : (i j : ℕ) → places.count ≤ i → cell_at rows i j ≡ Absent
