use Rattle.ba_kernel.proofs.SpareLemmas.{absurd_leads, goal_leads}
use Rattle.ba_kernel.proofs.cases.cases_of.Goals as goal

pub returns-in-Absurd : goal.returns-in-Absurd
returns-in-Absurd c =
    absurd_leads c.args.problem.now c.args.branch c.args.step.now c.in-Absurd.branch c.new.result.items c.in-Absurd.is c.requires.passes c.new.ensures.items

pub returns-in-Goal : goal.returns-in-Goal
returns-in-Goal c =
    goal_leads c.args.problem.now c.args.branch c.args.step.now c.in-Goal.branch c.in-Goal.part c.in-Goal.facts c.new-in-Goal.result.items c.in-Goal.is
    c.requires.passes c.new-in-Goal.ensures.items
