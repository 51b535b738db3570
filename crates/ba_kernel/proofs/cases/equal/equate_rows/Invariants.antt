use Rattle.std.proofs.Common.{◌≡◌, map, take}
use Rattle.std.specs.List.{zip}
use Rattle.ba_kernel.specs.Effects.{same_pair, with_lessons}
use Rattle.ba_kernel.proofs.cases.equal.equate_rows.Given as goal

-- the pairs so far were made the same
abbrev pub invariant-loop-i : goal.invariant-loop-i
invariant-loop-i l = l.new ≡ with_lessons l.fn.new (map same_pair (take l.i (zip l.left l.right)))
