use Rattle.std.proofs.Common.{◌≡◌, ◌<◌, ℕ, length, get_or}
use Rattle.ba_classes.specs.declared.best.Best.TheVariants.{Absent}
use Rattle.ba_classes.proofs.RowLemmas.{raised}
use Rattle.ba_classes.proofs.row.Row.raised.Given as goal

abbrev pub invariant-loop-place : goal.invariant-loop-place
invariant-loop-place l =
    (length l.cells.items ≡ l.place)
    × ((j : ℕ) → j < l.place → get_or l.cells.items j Absent ≡ raised l.self l.left l.onward j)
