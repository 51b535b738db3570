-- That steps don't close a problem, by what they come to.
use Rattle.std.proofs.Common.{◌≡◌, List, subst}
use Rattle.std.specs.Prelude.{Result, Err}
use Rattle.ba_model.specs.declared.failure.Failure.{Failure}
use Rattle.ba_model.specs.declared.failure.Failure.TheVariants.{Fault}
use Rattle.ba_kernel.proofs.OneEnd.{one_end}
use Rattle.ba_kernel.specs.Courses.{ProblemFits}
use Rattle.ba_kernel.specs.Replays.{Closes, Replays}
use Rattle.ba_kernel.specs.SearchStates.{Proof}
use Rattle.ba_kernel.specs.declared.problem.Problem.{Problem}
use Rattle.ba_kernel.specs.declared.replaying.ReplayFault.{ReplayFault}
use Rattle.ba_kernel.specs.declared.step.Step.{Step}

-- steps that have a fault don't close the problem
pub not_closed : (p q : Problem) (steps : List Step) (came : Result Proof (Failure ReplayFault)) (failure : Failure ReplayFault) (fault : ReplayFault) → q ≡ p →
    ProblemFits p → Replays q steps came → came ≡ Err failure → failure ≡ Fault fault → ¬ (Closes p steps)
not_closed p q steps came failure fault same fits replays is_err is_fault closes =
    let at : Replays p steps (Err (Fault fault)) =
    subst (λ x. Replays x steps (Err (Fault fault))) same
    (subst (λ f. Replays q steps (Err f)) is_fault (subst (Replays q steps) is_err replays)) in
    (one_end p steps fits).no_fault fault closes at
