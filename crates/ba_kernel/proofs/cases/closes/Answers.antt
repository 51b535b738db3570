use Rattle.std.proofs.Common.{[], refl}
use Rattle.ba_kernel.proofs.SpareLemmas.{absurd_leads, goal_leads}
use Rattle.ba_kernel.proofs.cases.closes.Goals as goal

pub returns-in-Absurd : goal.returns-in-Absurd
returns-in-Absurd c = λ p b yes passes. absurd_leads p b c.args.step.now c.in-Absurd.branch [] c.in-Absurd.is passes refl

pub returns-in-Goal : goal.returns-in-Goal
returns-in-Goal c = λ p b yes passes. goal_leads p b c.args.step.now c.in-Goal.branch c.in-Goal.part c.in-Goal.facts [] c.in-Goal.is passes refl
