use Rattle.std.proofs.Common.{◌≡◌, take}
use Rattle.ba_classes.proofs.grid.copy_rows.Given as goal

abbrev pub invariant-loop-row : goal.invariant-loop-row
invariant-loop-row l = l.others.items ≡ take l.row-index l.rows
