use Rattle.ba_wire.specs.Printed.{value_json}
use Rattle.ba_wire.proofs.RowLemmas.{Within}
use Rattle.ba_wire.proofs.rows.push_row.Given as goal

abbrev pub invariant-loop-value : goal.invariant-loop-value
invariant-loop-value l = Within value_json l.row l.value-index l.fn.out l.out
