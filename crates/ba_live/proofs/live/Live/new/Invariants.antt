use Rattle.std.proofs.Common.{take}
use Rattle.ba_judge.specs.Shelves.{AreTaken}
use Rattle.ba_live.proofs.live.Live.new.Given as goal

-- the templates so far were put on the shelves
abbrev pub invariant-loop-template : goal.invariant-loop-template
invariant-loop-template l = AreTaken (take l.template-index l.template-items) l.shelves
