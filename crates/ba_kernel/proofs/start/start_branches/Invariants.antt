use Rattle.std.proofs.Common.{take}
use Rattle.ba_kernel.specs.Tidy.{AreStarts}
use Rattle.ba_kernel.proofs.start.start_branches.Given as goal

-- the slots so far are those of the parts so far
abbrev pub invariant-loop-part : goal.invariant-loop-part
invariant-loop-part l = AreStarts l.problem (take l.part-index l.part-items) l.slots.items
