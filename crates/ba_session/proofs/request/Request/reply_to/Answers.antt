use Rattle.ba_session.proofs.JudgeLemmas.{says_answer, says_denied, says_proved, shown_goal, shown_of_question, weighed_as}
use Rattle.ba_session.specs.Asking.{effort_in}
use Rattle.ba_session.specs.declared.judge.Verdict.TheVariants.{Ground, Prove, Deny}
use Rattle.ba_session.proofs.request.Request.reply_to.Goals as goal

pub answer_by_proof-requires-clause-question : goal.answer_by_proof-requires-clause-question
answer_by_proof-requires-clause-question g c =
    let policy = c.args.service.now.policy in
    let asker = c.args.self.now in
    let effort = effort_in (g.S.Settle.orders c.args.settle.now) c.args.budget in
    let query = c.args.query in
    let old = c.args.passes.now in
    let new = c.weigh.new.passes in
    let it = c.in-Ok-Prove in
    shown_of_question policy asker effort query c.requires.fits it.proved old new (weighed_as policy asker effort query it.field-0 (Prove it.proved) it.field-0-is old new it.ensures.weighs)

pub answer_by_proof-requires-clause-goal : goal.answer_by_proof-requires-clause-goal
answer_by_proof-requires-clause-goal g c =
    let policy = c.args.service.now.policy in
    let asker = c.args.self.now in
    let effort = effort_in (g.S.Settle.orders c.args.settle.now) c.args.budget in
    let query = c.args.query in
    let old = c.args.passes.now in
    let new = c.weigh.new.passes in
    let it = c.in-Ok-Prove in
    shown_goal policy asker effort query it.proved old new (weighed_as policy asker effort query it.field-0 (Prove it.proved) it.field-0-is old new it.ensures.weighs)

pub returns-in-Ok-Ground-clause-says : goal.returns-in-Ok-Ground-clause-says
returns-in-Ok-Ground-clause-says g c =
    let policy = c.args.service.now.policy in
    let asker = c.args.self.now in
    let effort = effort_in (g.S.Settle.orders c.args.settle.now) c.args.budget in
    let query = c.args.query in
    let old = c.args.passes.now in
    let new = c.weigh.new.passes in
    let it = c.in-Ok-Ground in
    says_answer policy asker effort query c.answer_everywhere.ensures c.requires.asker it.by old new (weighed_as policy asker effort query it.field-0 (Ground it.by) it.field-0-is old new it.ensures.weighs)
    c.answer.result c.answer.ensures.answers

pub returns-in-Ok-Prove-clause-says : goal.returns-in-Ok-Prove-clause-says
returns-in-Ok-Prove-clause-says g c =
    let policy = c.args.service.now.policy in
    let asker = c.args.self.now in
    let effort = effort_in (g.S.Settle.orders c.args.settle.now) c.args.budget in
    let query = c.args.query in
    let old = c.args.passes.now in
    let between = c.weigh.new.passes in
    let it = c.in-Ok-Prove in
    says_proved policy asker effort query c.answer_everywhere.ensures c.requires.asker it.proved old between (weighed_as policy asker effort query it.field-0 (Prove it.proved) it.field-0-is old between it.ensures.weighs)
    c.answer_by_proof.result c.answer_by_proof.new.passes c.answer_by_proof.ensures.answers

pub returns-in-Ok-Deny-clause-says : goal.returns-in-Ok-Deny-clause-says
returns-in-Ok-Deny-clause-says g c =
    let policy = c.args.service.now.policy in
    let asker = c.args.self.now in
    let effort = effort_in (g.S.Settle.orders c.args.settle.now) c.args.budget in
    let query = c.args.query in
    let old = c.args.passes.now in
    let new = c.weigh.new.passes in
    let it = c.in-Ok-Deny in
    says_denied policy asker effort query it.why old new (weighed_as policy asker effort query it.field-0 (Deny it.why) it.field-0-is old new it.ensures.weighs)

pub returns-in-Err-clause-says : goal.returns-in-Err-clause-says
returns-in-Err-clause-says g c = c.in-Err.ensures.weighs
