use Rattle.std.proofs.Common.{All, take}
use Rattle.ba_weaker.proofs.StepLemmas.{IsOther}
use Rattle.ba_weaker.proofs.weaken.is_among.Given as goal

-- none of the conditions so far is equal
abbrev pub invariant-loop-other : goal.invariant-loop-other
invariant-loop-other l = All (IsOther l.atom) (take l.other-index l.conds)
