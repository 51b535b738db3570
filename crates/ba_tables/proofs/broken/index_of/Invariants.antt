use Rattle.std.proofs.Common.{take}
use Rattle.ba_tables.specs.Index.{IsIndex}
use Rattle.ba_tables.proofs.broken.index_of.Given as goal

abbrev pub invariant-loop-i : goal.invariant-loop-i
invariant-loop-i l = IsIndex (take l.i l.rows) l.columns l.index
