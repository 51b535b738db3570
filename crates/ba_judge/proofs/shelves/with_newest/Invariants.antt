use Rattle.std.proofs.Common.{◌≡◌, take}
use Rattle.ba_judge.proofs.shelves.with_newest.Given as goal

abbrev pub invariant-loop-template : goal.invariant-loop-template
invariant-loop-template l = l.all ≡ take l.template-index l.template-items
