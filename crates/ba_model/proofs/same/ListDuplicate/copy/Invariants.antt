use Rattle.std.proofs.Common.{◌≡◌, take}
use Rattle.ba_model.proofs.same.ListDuplicate.copy.Given as goal

-- the copies so far are the elements so far
abbrev pub invariant-loop-x : goal.invariant-loop-x
invariant-loop-x g l = l.all.items ≡ take l.x-index l.self
