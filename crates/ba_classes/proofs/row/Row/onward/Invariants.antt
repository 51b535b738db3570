use Rattle.std.proofs.Common.{◌≡◌, ◌<◌, ℕ, length, get_or}
use Rattle.ba_classes.specs.declared.best.Best.TheVariants.{Absent}
use Rattle.ba_classes.proofs.RowLemmas.{onward_cell}
use Rattle.ba_classes.proofs.row.Row.onward.Given as goal

abbrev pub invariant-loop-other : goal.invariant-loop-other
invariant-loop-other l =
    (length l.cells.items ≡ l.other)
    × ((j : ℕ) → j < l.other → get_or l.cells.items j Absent ≡ onward_cell l.self l.place l.side j)
