use Rattle.std.proofs.Common.{All, take}
use Rattle.ba_weaker.proofs.StepLemmas.{HasNone}
use Rattle.ba_weaker.proofs.weaken.none_has_weaker.Given as goal

-- no entry so far has a weaker question
abbrev pub invariant-loop-number : goal.invariant-loop-number
invariant-loop-number l = All HasNone (take l.number l.trace)
