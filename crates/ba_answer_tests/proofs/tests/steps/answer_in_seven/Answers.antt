use Rattle.std.proofs.Common.{[], ◌∷◌, subst}
use Rattle.ba_eval.specs.Visits.{StepsWithin}
use Rattle.ba_answer_tests.specs.JoinSteps.{attended_titles}
use Rattle.ba_answer_tests.proofs.tests.steps.answer_in_seven.Goals as goal

pub returns-clause-steps : goal.returns-clause-steps
returns-clause-steps g c =
    let asked = subst (λ parts. StepsWithin c.args.ctx.now c.args.tables.now parts c.args.steps.now c.answer_counted.new.steps) c.requires.question c.answer_counted.ensures.steps in
    c.join_in_seven_steps.ensures c.args.ctx.now c.args.steps.now c.answer_counted.new.steps
    (subst (λ rows. StepsWithin c.args.ctx.now rows (attended_titles ∷ []) c.args.steps.now c.answer_counted.new.steps) c.requires.tables asked)
