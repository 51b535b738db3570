use Rattle.ba_match.proofs.StartLemmas.{template_found, template_left, template_other, template_untold}
use Rattle.ba_match.proofs.matching.match_template.Goals as goal

pub returns-then-not-told : goal.returns-then-not-told
returns-then-not-told c =
    template_untold c.args.template.now.problem c.problem-problem.result.now c.problem-problem.ensures.is c.args.policy.now c.args.ctx.now c.args.trace.now c.args.query.now c.len.result c.len.ensures c.deref.result.now c.deref.ensures c.in_ok-bound.bound c.bind_query.new.self c.in_ok-told.told c.in_ok-bound.ensures c.in_ok-told.ensures c.if-not-told.true

pub returns-then-not-same : goal.returns-then-not-same
returns-then-not-same c =
    template_other c.args.template.now.problem c.problem-problem.result.now c.problem-problem.ensures.is c.args.policy.now c.args.ctx.now c.args.trace.now c.args.query.now c.len.result c.len.ensures c.deref.result.now c.deref.ensures c.in_ok-bound.bound c.bind_query.new.self c.in_ok-told.told c.in_ok-bound.ensures c.in_ok-told.ensures c.same.result c.same.ensures.1 c.if-not-same.true

pub find-requires : goal.find-requires
find-requires c =
    template_left c.args.template.now.problem c.problem-problem.result.now c.problem-problem.ensures.is c.args.policy.now c.args.ctx.now c.args.trace.now c.args.query.now c.len.result c.len.ensures c.deref.result.now c.deref.ensures c.in_ok-bound.bound c.bind_query.new.self c.in_ok-told.told c.in_ok-bound.ensures c.in_ok-told.ensures c.as_slice.result.now c.as_slice.ensures c.if-not-told.false
    c.problem-problem.ensures.stands

pub returns : goal.returns
returns c =
    template_found c.args.template.now.problem c.problem-problem.result.now c.problem-problem.ensures.is c.args.policy.now c.args.ctx.now c.args.trace.now c.args.query.now c.len.result c.len.ensures c.deref.result.now c.deref.ensures c.in_ok-bound.bound c.bind_query.new.self c.in_ok-told.told c.in_ok-bound.ensures c.in_ok-told.ensures c.as_slice.result.now c.as_slice.ensures c.if-not-told.false
    c.find.result c.same.result c.same.ensures.0 c.if-not-same.false c.find.ensures
