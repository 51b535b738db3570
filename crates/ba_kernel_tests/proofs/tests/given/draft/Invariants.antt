use Rattle.ba_kernel.specs.Drafts.{IsChecked}
use Rattle.ba_kernel_tests.proofs.tests.given.draft.Given as goal

abbrev pub invariant-loop-piece : goal.invariant-loop-piece
invariant-loop-piece g l = IsChecked l.draft.policy
