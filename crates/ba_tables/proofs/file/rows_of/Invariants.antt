use Rattle.ba_tables.proofs.RowsLemmas.{Kept}
use Rattle.ba_tables.proofs.file.rows_of.Given as goal

abbrev pub invariant-loop-row : goal.invariant-loop-row
invariant-loop-row l = Kept l.columns l.initial.lines l.lines l.rows l.row
