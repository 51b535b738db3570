use Rattle.std.proofs.Common.{take}
use Rattle.ba_target.specs.Names.{IsApart}
use Rattle.ba_target.proofs.names.alike_to.Given as goal

abbrev pub invariant-loop-other : goal.invariant-loop-other
invariant-loop-other l = IsApart l.database l.name (take l.other-index l.others)
