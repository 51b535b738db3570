use Rattle.std.proofs.Common.{◌≡◌, ℕ, ◌<◌, Some, slice_get}
use Rattle.ba_kernel.specs.Steps.{AreEqualAt}
use Rattle.ba_kernel.proofs.passes.row.first_unequal.Given as goal

-- the rows are shown equal in each column so far
abbrev pub invariant-loop-number : goal.invariant-loop-number
invariant-loop-number l = (k column : ℕ) → k < l.number → slice_get l.columns k ≡ Some column → AreEqualAt l.branch l.left l.right column
