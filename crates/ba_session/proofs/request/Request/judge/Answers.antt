use Rattle.ba_session.proofs.JudgeLemmas.{judges_other, judges_proved, shown_of_question, weighed_as}
use Rattle.ba_session.specs.Asking.{effort_in}
use Rattle.ba_session.specs.declared.judge.Verdict.TheVariants.{Ground, Prove, Deny}
use Rattle.ba_session.proofs.request.Request.judge.Goals as goal

pub prove-requires-clause-question : goal.prove-requires-clause-question
prove-requires-clause-question g c =
    let policy = c.args.service.now.policy in
    let asker = c.args.self.now in
    let effort = effort_in (g.S.Settle.orders c.args.settle.now) c.args.budget in
    let query = c.args.query.now in
    let old = c.args.passes.now in
    let new = c.weigh.new.passes in
    let it = c.in-Ok-Prove in
    shown_of_question policy asker effort query c.requires.fits it.proved old new (weighed_as policy asker effort query it.field-0 (Prove it.proved) it.field-0-is old new it.ensures.weighs)

pub returns-in-Ok-Ground-clause-judges : goal.returns-in-Ok-Ground-clause-judges
returns-in-Ok-Ground-clause-judges g c =
    let policy = c.args.service.now.policy in
    let asker = c.args.self.now in
    let effort = effort_in (g.S.Settle.orders c.args.settle.now) c.args.budget in
    let query = c.args.query.now in
    let old = c.args.passes.now in
    let new = c.weigh.new.passes in
    let it = c.in-Ok-Ground in
    judges_other policy asker effort query it.by old new (weighed_as policy asker effort query it.field-0 (Ground it.by) it.field-0-is old new it.ensures.weighs)

pub returns-in-Ok-Prove-clause-judges : goal.returns-in-Ok-Prove-clause-judges
returns-in-Ok-Prove-clause-judges g c =
    let policy = c.args.service.now.policy in
    let asker = c.args.self.now in
    let effort = effort_in (g.S.Settle.orders c.args.settle.now) c.args.budget in
    let query = c.args.query.now in
    let old = c.args.passes.now in
    let between = c.weigh.new.passes in
    let it = c.in-Ok-Prove in
    judges_proved policy asker effort query it.proved old between (weighed_as policy asker effort query it.field-0 (Prove it.proved) it.field-0-is old between it.ensures.weighs)
    c.prove.result c.prove.new.passes c.prove.ensures.proves

pub returns-in-Ok-Deny-clause-judges : goal.returns-in-Ok-Deny-clause-judges
returns-in-Ok-Deny-clause-judges g c =
    let policy = c.args.service.now.policy in
    let asker = c.args.self.now in
    let effort = effort_in (g.S.Settle.orders c.args.settle.now) c.args.budget in
    let query = c.args.query.now in
    let it = c.in-Ok-Deny in
    weighed_as policy asker effort query it.field-0 (Deny it.why) it.field-0-is c.args.passes.now c.weigh.new.passes it.ensures.weighs

pub returns-in-Err-clause-judges : goal.returns-in-Err-clause-judges
returns-in-Err-clause-judges g c = c.in-Err.ensures.weighs
