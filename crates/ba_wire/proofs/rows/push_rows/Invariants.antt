use Rattle.ba_wire.specs.Printed.{row_json}
use Rattle.ba_wire.proofs.RowLemmas.{Within}
use Rattle.ba_wire.proofs.rows.push_rows.Given as goal

abbrev pub invariant-loop-row : goal.invariant-loop-row
invariant-loop-row l = Within row_json l.rows l.row-index l.fn.out l.out
