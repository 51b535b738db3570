use Rattle.std.proofs.Common.{List, Result, drop, take, []}
use Rattle.ba_model.specs.declared.value.Value.{Value}
use Rattle.ba_outside.specs.Seen.{FilesSeen}
use Rattle.ba_plan.specs.Follows.{Follows}
use Rattle.ba_plan.specs.declared.stop.Stop.{Stop}
use Rattle.ba_wire.specs.declared.fault.Fault.{Fault}
use Rattle.ba_input.specs.Inputs.{RowsOfTables}
use Rattle.ba_input.specs.Reading.{rows_plan}
use Rattle.ba_input.proofs.run_input.read_rows.Given as goal

-- whatever follows for the tables that are left follows for all, and the rows so far fit
abbrev pub invariant-loop-table : goal.invariant-loop-table
invariant-loop-table g l = let seen = g.F.Files.seen in record {
  follows : (t : FilesSeen) (r : Result (List (List (List Value))) (Stop Fault)) → Follows (rows_plan l.set (drop l.table-index l.tables) l.lists) (seen l.files) t r → Follows (rows_plan l.set l.tables []) (seen l.fn.files) t r;
  fit : RowsOfTables (take l.table-index l.tables) l.lists;
}
