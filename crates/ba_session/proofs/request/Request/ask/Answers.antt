use Rattle.std.proofs.Common.{[], subst}
use Rattle.ba_model.specs.Fit.{IsQuery, kinds_of}
use Rattle.ba_session.proofs.JudgeLemmas.{asks_after, question_fits, refused_made, refused_same, replies_made, rightly_made}
use Rattle.ba_session.specs.Asking.{Reads, effort_in}
use Rattle.ba_session.proofs.request.Request.ask.Goals as goal

pub reply_to-requires-clause-fits : goal.reply_to-requires-clause-fits
reply_to-requires-clause-fits g c =
    question_fits c.answers_are_records.ensures c.args.service.now.policy c.args.self.now c.in-Ok.query c.requires.policy c.requires.asker
    (subst (λ p. IsQuery p.schema (kinds_of p.params) [] c.in-Ok.query) c.deref.ensures c.in-Ok.ensures.query)

pub returns-in-Ok-clause-replies : goal.returns-in-Ok-clause-replies
returns-in-Ok-clause-replies g c =
    replies_made c.args.service.now.policy c.args.self.now (effort_in (g.S.Settle.orders c.args.settle.now) c.args.budget) c.in-Ok.query c.args.text.now (subst (λ p. Reads p c.args.text.now c.in-Ok.query) c.deref.ensures c.in-Ok.ensures.reads)
    c.reply_to.result c.args.passes.now c.reply_to.new.passes c.reply_to.ensures.says

pub returns-in-Ok-clause-right : goal.returns-in-Ok-clause-right
returns-in-Ok-clause-right g c =
    let policy = c.args.service.now.policy in
    let asker = c.args.self.now in
    let effort = effort_in (g.S.Settle.orders c.args.settle.now) c.args.budget in
    rightly_made policy asker effort c.args.text.now c.reply_to.result c.args.passes.now c.reply_to.new.passes
    (replies_made policy asker effort c.in-Ok.query c.args.text.now (subst (λ p. Reads p c.args.text.now c.in-Ok.query) c.deref.ensures c.in-Ok.ensures.reads)
    c.reply_to.result c.args.passes.now c.reply_to.new.passes c.reply_to.ensures.says)

pub returns-in-Ok-clause-asker : goal.returns-in-Ok-clause-asker
returns-in-Ok-clause-asker g c =
    asks_after c.args.service.now.policy c.args.self.now c.requires.asker (effort_in (g.S.Settle.orders c.args.settle.now) c.args.budget) c.in-Ok.query c.reply_to.result c.args.passes.now c.reply_to.new.passes c.reply_to.new.self
    (subst (λ p. IsQuery p.schema (kinds_of p.params) [] c.in-Ok.query) c.deref.ensures c.in-Ok.ensures.query) c.reply_to.ensures.says c.reply_to.ensures.request

pub returns-in-Err-clause-replies : goal.returns-in-Err-clause-replies
returns-in-Err-clause-replies g c =
    refused_made c.deref.result.now c.args.service.now.policy c.deref.ensures c.args.self.now (effort_in (g.S.Settle.orders c.args.settle.now) c.args.budget) c.args.text.now c.in-Err.failure c.refusal.result c.refusal.ensures c.in-Err.ensures.exact c.args.passes.now

pub returns-in-Err-clause-right : goal.returns-in-Err-clause-right
returns-in-Err-clause-right g c =
    let policy = c.args.service.now.policy in
    let asker = c.args.self.now in
    let effort = effort_in (g.S.Settle.orders c.args.settle.now) c.args.budget in
    rightly_made policy asker effort c.args.text.now c.refusal.result c.args.passes.now c.args.passes.now
    (refused_made c.deref.result.now policy c.deref.ensures asker effort c.args.text.now c.in-Err.failure c.refusal.result c.refusal.ensures c.in-Err.ensures.exact c.args.passes.now)

pub returns-in-Err-clause-request : goal.returns-in-Err-clause-request
returns-in-Err-clause-request g c = refused_same c.in-Err.failure c.refusal.result c.args.self.now c.refusal.ensures
