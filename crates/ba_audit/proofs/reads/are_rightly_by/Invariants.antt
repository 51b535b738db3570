use Rattle.std.proofs.Common.{take}
use Rattle.std.specs.List.{AllZip}
use Rattle.ba_audit.specs.Tests.{IsRightlyBy}
use Rattle.ba_audit.proofs.reads.are_rightly_by.Given as goal

-- so of the queries so far
abbrev pub invariant-loop-i : goal.invariant-loop-i
invariant-loop-i l = AllZip (IsRightlyBy l.policy l.asker) (take l.i l.queries) (take l.i l.evidence)
