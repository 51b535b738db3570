use Rattle.std.proofs.Common.{All, take}
use Rattle.ba_model.specs.Conform.{RowFits}
use Rattle.ba_tables.proofs.conforming.rows_fit.Given as goal

abbrev pub invariant-loop-row : goal.invariant-loop-row
invariant-loop-row l = All (RowFits l.table) (take l.row-index l.rows)
