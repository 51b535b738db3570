use Rattle.std.proofs.Common.{take}
use Rattle.ba_refute.specs.Used.{HaveSame}
use Rattle.ba_refute.proofs.used.Used.of.Given as goal

abbrev pub invariant-loop-number : goal.invariant-loop-number
invariant-loop-number l = HaveSame l.used (take l.number-index l.list)
