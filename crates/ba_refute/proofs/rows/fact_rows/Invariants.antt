use Rattle.std.proofs.Common.{take}
use Rattle.ba_refute.specs.Images.{AreFactRows}
use Rattle.ba_refute.specs.Once.{AreSeen}
use Rattle.ba_refute.proofs.rows.fact_rows.Given as goal

-- the rows so far are those of the facts so far
abbrev pub invariant-loop-fact : goal.invariant-loop-fact
invariant-loop-fact l = record {
  rows : AreFactRows l.ctx l.values (take l.fact-index l.facts) l.side l.table l.rows.items;
  seen : AreSeen l.rows.items l.seen;
}
