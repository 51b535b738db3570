use Rattle.std.proofs.Common.{◌≡◌, [], All, subst, sym}
use Rattle.ba_model.specs.Fit.{IsQuery, KeyFits, kinds_of}
use Rattle.ba_model.specs.declared.policy.Policy.{Policy}
use Rattle.ba_session.proofs.ReadingLemmas.{lets_through, questions_fit, read_rightly, reads_named, reads_nothing, room_for}
use Rattle.ba_session.specs.Asking.{effort_in}
use Rattle.ba_keys.specs.Literals.{key_queries}
use Rattle.ba_session.proofs.request.Request.read.Goals as goal

pub key_queries-requires-clause-key : goal.key_queries-requires-clause-key
key_queries-requires-clause-key g c = subst (λ (p : Policy). KeyFits p c.args.key.now) (sym c.deref.ensures) c.requires.key

pub read_all-requires-clause-fit : goal.read_all-requires-clause-fit
read_all-requires-clause-fit g c =
    questions_fit c.answers_are_records.ensures c.args.service.now.policy c.args.self.now c.in-Ok.queries c.requires.policy c.requires.asker
    (subst (λ (p : Policy). All (IsQuery p.schema (kinds_of p.params) []) c.in-Ok.queries) c.deref.ensures c.in-Ok.ensures.fit)

pub read_all-requires-clause-room : goal.read_all-requires-clause-room
read_all-requires-clause-room g c =
    room_for c.args.service.now.policy c.args.key.now c.args.arguments.now c.in-Ok.queries c.args.passes.now
    (subst (λ (p : Policy). c.in-Ok.queries ≡ key_queries p c.args.key.now c.args.arguments.now) c.deref.ensures c.in-Ok.ensures.are)
    c.requires.room

pub returns-in-Ok-clause-reads : goal.returns-in-Ok-clause-reads
returns-in-Ok-clause-reads g c =
    reads_named c.args.service.now.policy c.args.self.now (effort_in (g.S.Settle.orders c.args.settle.now) c.args.budget) c.in-Ok.queries (key_queries c.args.service.now.policy c.args.key.now c.args.arguments.now)
    (subst (λ (p : Policy). c.in-Ok.queries ≡ key_queries p c.args.key.now c.args.arguments.now) c.deref.ensures c.in-Ok.ensures.are)
    c.read_all.result c.args.passes.now c.read_all.new.passes c.read_all.ensures.reads

pub returns-in-Ok-clause-through : goal.returns-in-Ok-clause-through
returns-in-Ok-clause-through g c =
    lets_through c.args.service.now.policy c.args.self.now (effort_in (g.S.Settle.orders c.args.settle.now) c.args.budget) c.answer_everywhere.ensures c.requires.asker c.in-Ok.queries c.read_all.result c.args.passes.now c.read_all.new.passes
    c.read_all.ensures.reads

pub returns-in-Ok-clause-right : goal.returns-in-Ok-clause-right
returns-in-Ok-clause-right g c =
    read_rightly c.args.service.now.policy c.args.self.now (effort_in (g.S.Settle.orders c.args.settle.now) c.args.budget) (key_queries c.args.service.now.policy c.args.key.now c.args.arguments.now) c.read_all.result c.args.passes.now c.read_all.new.passes
    (reads_named c.args.service.now.policy c.args.self.now (effort_in (g.S.Settle.orders c.args.settle.now) c.args.budget) c.in-Ok.queries (key_queries c.args.service.now.policy c.args.key.now c.args.arguments.now)
    (subst (λ (p : Policy). c.in-Ok.queries ≡ key_queries p c.args.key.now c.args.arguments.now) c.deref.ensures c.in-Ok.ensures.are)
    c.read_all.result c.args.passes.now c.read_all.new.passes c.read_all.ensures.reads)

pub returns-in-Err-clause-reads : goal.returns-in-Err-clause-reads
returns-in-Err-clause-reads g c =
    reads_nothing c.args.service.now.policy c.args.self.now (effort_in (g.S.Settle.orders c.args.settle.now) c.args.budget) (key_queries c.args.service.now.policy c.args.key.now c.args.arguments.now) c.args.passes.now

pub returns-in-Err-clause-right : goal.returns-in-Err-clause-right
returns-in-Err-clause-right g c =
    read_rightly c.args.service.now.policy c.args.self.now (effort_in (g.S.Settle.orders c.args.settle.now) c.args.budget) (key_queries c.args.service.now.policy c.args.key.now c.args.arguments.now) _ c.args.passes.now c.args.passes.now
    (reads_nothing c.args.service.now.policy c.args.self.now (effort_in (g.S.Settle.orders c.args.settle.now) c.args.budget) (key_queries c.args.service.now.policy c.args.key.now c.args.arguments.now) c.args.passes.now)
