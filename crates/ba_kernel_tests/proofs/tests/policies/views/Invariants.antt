use Rattle.std.proofs.Common.{[], All}
use Rattle.ba_model.specs.Fit.{IsQuery, kinds_of}
use Rattle.ba_kernel_tests.proofs.tests.policies.views.Given as goal

abbrev pub invariant-loop-piece : goal.invariant-loop-piece
invariant-loop-piece g l = All (λ view. IsQuery l.schema (kinds_of l.params) [] view.query) l.all
