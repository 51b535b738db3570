use Rattle.std.proofs.Common.{◌≡◌, take}
use Rattle.ba_core.proofs.ground.same_entries.Given as goal

-- the entries so far are equal
abbrev pub invariant-loop-i : goal.invariant-loop-i
invariant-loop-i l = take l.i l.one ≡ take l.i l.other
