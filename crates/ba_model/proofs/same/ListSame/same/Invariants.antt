use Rattle.std.proofs.Common.{◌≡◌, take}
use Rattle.ba_model.proofs.same.ListSame.same.Given as goal

-- the elements so far are equal
abbrev pub invariant-loop-i : goal.invariant-loop-i
invariant-loop-i g l = take l.i l.self ≡ take l.i l.other
