use Rattle.std.proofs.Common.{◌≡◌, ◌≤◌, length, subst, sym, ◌∙◌}
use Rattle.ba_kernel.specs.Replays.{Closes}
use Rattle.ba_general.proofs.KeptLemmas.{leaves_closes, leaves_few}
use Rattle.ba_general.proofs.leaving.kept_steps.Goals as goal

pub returns-clause-closes : goal.returns-clause-closes
returns-clause-closes c =
    let same : c.in_ok-taken.taken.steps ≡ c.args.steps.now = c.in_ok-taken.ensures.steps ∙ c.in_ok-copy.ensures in
    leaves_closes c.args.problem.now c.in_ok-taken.taken.steps 0 c.len.result c.leave.new.taken.steps (subst (Closes c.args.problem.now) (sym same) c.requires.closes)
    c.in_ok-leave.ensures.leaves

pub returns-clause-few : goal.returns-clause-few
returns-clause-few c =
    let same : c.in_ok-taken.taken.steps ≡ c.args.steps.now = c.in_ok-taken.ensures.steps ∙ c.in_ok-copy.ensures in
    subst (λ xs. length c.leave.new.taken.steps ≤ length xs) same
    (leaves_few c.args.problem.now c.in_ok-taken.taken.steps 0 c.len.result c.leave.new.taken.steps c.in_ok-leave.ensures.leaves)
