use Rattle.std.proofs.Common.{take}
use Rattle.ba_refute.specs.Once.{IsSetOf}
use Rattle.ba_refute.proofs.once.set_of.Given as goal

-- the set has the rows so far
abbrev pub invariant-loop-row : goal.invariant-loop-row
invariant-loop-row l = IsSetOf (take l.row-index l.rows) l.set
