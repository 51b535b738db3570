use Rattle.std.proofs.Common.{◌≡◌, ◌<◌, ℕ, get_or}
use Rattle.ba_classes.specs.declared.best.Best.TheVariants.{Absent}
use Rattle.ba_classes.proofs.RowLemmas.{raised}
use Rattle.ba_classes.proofs.row.Row.gains.Given as goal

abbrev pub invariant-loop-place : goal.invariant-loop-place
invariant-loop-place l =
    (j : ℕ) → j < l.place → raised l.self l.left l.onward j ≡ get_or l.self j Absent
