use Rattle.std.proofs.Common.{◌≡◌, take}
use Rattle.ba_template.proofs.same.same_steps.Given as goal

-- the steps so far are equal
abbrev pub invariant-loop-i : goal.invariant-loop-i
invariant-loop-i l = take l.i l.left ≡ take l.i l.right
