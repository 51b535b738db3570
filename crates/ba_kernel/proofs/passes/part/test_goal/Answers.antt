use Rattle.std.proofs.Common.{sym}
use Rattle.std.proofs.lemmas.Result.{err_from_is_err_and}
use Rattle.ba_kernel.specs.Steps.{GoalRefuses}
use Rattle.ba_kernel.proofs.PassLemmas.{goal_differs, goal_wide}
use Rattle.ba_kernel.proofs.passes.part.test_goal.Goals as goal

pub returns-in_default : goal.returns-in_default
returns-in_default c = GoalRefuses.no_part (sym c.in_default.ensures)

pub returns-in_err-test_facts : goal.returns-in_err-test_facts
returns-in_err-test_facts c =
    let p = err_from_is_err_and c.from_residual.result c.from_residual.ensures.1 in
    rw (p.1, p.2) (GoalRefuses.facts_refuse (sym c.in-Some.ensures) c.in_err-test_facts.ensures)

pub first_different-requires : goal.first_different-requires
first_different-requires c = goal_wide _ c.args.part c.in-Some.it.now _ _ c.requires.goal_wide (sym c.in-Some.ensures) c.as_slice.ensures

pub returns-in-Some-first_different : goal.returns-in-Some-first_different
returns-in-Some-first_different c =
    goal_differs c.args.problem.now c.args.branch.now c.args.part c.args.facts.now c.in-Some.it.now _ c.in-Some-first_different.n
    (sym c.in-Some.ensures) c.in_ok-test_facts.ensures c.as_slice.ensures c.in-Some-first_different.ensures
