use Rattle.ba_refute.proofs.LeafLemmas.{facts_have, goal_has, not_absurd, refuted, stuck}
use Rattle.ba_refute.proofs.refutal.try_pair.Goals as goal

pub try_branch-requires-clause-sound : goal.try_branch-requires-clause-sound
try_branch-requires-clause-sound c = not_absurd c.args.leaf c.requires.leaf c.deref-branch.result.now c.deref-branch.ensures

pub try_branch-requires-clause-facts : goal.try_branch-requires-clause-facts
try_branch-requires-clause-facts c =
    facts_have c.args.asked.now c.requires.fits c.args.leaf c.requires.problem c.requires.leaf c.deref-branch.result.now c.deref-branch.ensures
    c.runs_are_tidy.ensures c.question_is_problem.ensures

pub try_branch-requires-clause-goal : goal.try_branch-requires-clause-goal
try_branch-requires-clause-goal c =
    goal_has c.args.asked.now c.requires.fits c.args.leaf c.requires.problem c.requires.leaf c.deref-branch.result.now c.deref-branch.ensures
    c.runs_are_tidy.ensures c.question_is_problem.ensures

pub returns-in-Pair : goal.returns-in-Pair
returns-in-Pair c =
    refuted c.args.asked.now c.args.leaf c.deref-problem.result.now c.deref-branch.result.now c.deref-problem.ensures c.deref-branch.ensures
    c.in_ok-tried.tried c.in_ok-tried.ensures c.in-Pair.pair c.in-Pair.is

pub returns-in-Stuck : goal.returns-in-Stuck
returns-in-Stuck c =
    stuck c.args.asked.now c.args.leaf c.deref-problem.result.now c.deref-branch.result.now c.deref-problem.ensures c.deref-branch.ensures
    c.in_ok-tried.tried c.in_ok-tried.ensures c.requires.fits c.requires.problem c.requires.leaf c.in-Stuck.clause c.in-Stuck.is
