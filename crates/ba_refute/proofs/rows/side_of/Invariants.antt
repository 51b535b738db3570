use Rattle.ba_refute.specs.Images.{AreSideRows}
use Rattle.ba_refute.proofs.rows.side_of.Given as goal

abbrev pub invariant-loop-table : goal.invariant-loop-table
invariant-loop-table l = AreSideRows l.ctx l.values l.facts l.table l.side l.all.items
