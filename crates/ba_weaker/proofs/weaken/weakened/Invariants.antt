use Rattle.std.proofs.Common.{take}
use Rattle.ba_weaker.specs.Weaker.{AreWeaker}
use Rattle.ba_weaker.proofs.weaken.weakened.Given as goal

-- the weaker entries of those so far
abbrev pub invariant-loop-number : goal.invariant-loop-number
invariant-loop-number l = AreWeaker (take l.number l.trace) l.weaker
