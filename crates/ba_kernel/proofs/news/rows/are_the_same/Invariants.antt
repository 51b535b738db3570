use Rattle.std.proofs.Common.{take}
use Rattle.std.specs.List.{AllZip}
use Rattle.ba_facts.specs.Shown.{TheSame}
use Rattle.ba_kernel.proofs.news.rows.are_the_same.Given as goal

-- the rows are the same so far
abbrev pub invariant-loop-i : goal.invariant-loop-i
invariant-loop-i l = AllZip (TheSame l.branch.known) (take l.i l.left) (take l.i l.right)
