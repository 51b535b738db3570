use Rattle.std.proofs.Common.{take}
use Rattle.ba_judge.specs.Judging.{NoneServes, seen}
use Rattle.ba_judge.proofs.whole.serving.Given as goal

-- none of the templates so far matches
abbrev pub invariant-loop-template : goal.invariant-loop-template
invariant-loop-template l = NoneServes (seen l.asked) (take l.template-index l.found)
