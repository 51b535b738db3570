use Rattle.std.proofs.Common.{◌≡◌, ℕ, ◌<◌, ◌≤◌}
use Rattle.ba_classes.specs.Grid.{NoneNew, SameBelow, cell_at}
use Rattle.ba_classes.specs.declared.best.Best.TheVariants.{Absent}
use Rattle.ba_classes.proofs.grid.cut.Given as goal

abbrev pub invariant-loop-row : goal.invariant-loop-row
invariant-loop-row l =
    SameBelow l.side l.initial.rows l.rows
    × NoneNew l.initial.rows l.rows
    × ((i j : ℕ) → i < l.row-index → l.side ≤ j → cell_at l.rows i j ≡ Absent)
