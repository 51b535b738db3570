use Rattle.std.proofs.Common.{◌≡◌, ◌<◌, ℕ, length}
use Rattle.ba_classes.specs.Grid.{cell_at}
use Rattle.ba_classes.proofs.GridLemmas.{raised_cell}
use Rattle.ba_classes.proofs.grid.raised.Given as goal

abbrev pub invariant-loop-place : goal.invariant-loop-place
invariant-loop-place l =
    (length l.others.items ≡ l.place)
    × ((i j : ℕ) → i < l.place → cell_at l.others.items i j ≡ raised_cell l.rows l.low l.by l.onward i j)
