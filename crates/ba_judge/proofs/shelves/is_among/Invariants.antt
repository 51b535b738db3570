use Rattle.std.proofs.Common.{All, take}
use Rattle.ba_judge.proofs.ShelfLemmas.{IsOther}
use Rattle.ba_judge.proofs.shelves.is_among.Given as goal

-- none of the templates so far is equal
abbrev pub invariant-loop-other : goal.invariant-loop-other
invariant-loop-other l = All (IsOther l.template) (take l.other-index l.templates)
