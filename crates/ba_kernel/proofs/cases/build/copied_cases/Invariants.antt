use Rattle.std.proofs.Common.{take}
use Rattle.std.specs.List.{AllZip}
use Rattle.ba_kernel.specs.Effects.{IsCase}
use Rattle.ba_kernel.proofs.cases.build.copied_cases.Given as goal

-- the cases so far are those of the parts so far
abbrev pub invariant-loop-part : goal.invariant-loop-part
invariant-loop-part l = AllZip (IsCase l.problem.policy.schema l.old l.side l.round l.row) (take l.part-index l.parts) l.cases.items
