use Rattle.std.proofs.Common.{◌≡◌, ℕ, ◌<◌, Some, slice_get}
use Rattle.ba_kernel.specs.Steps.{IsNotNullAt}
use Rattle.ba_kernel.proofs.passes.row.first_nullable.Given as goal

-- the row is shown not null in each column so far
abbrev pub invariant-loop-number : goal.invariant-loop-number
invariant-loop-number l = (k column : ℕ) → k < l.number → slice_get l.columns k ≡ Some column → IsNotNullAt l.branch l.terms column
