use Rattle.std.proofs.Common.{subst}
use Rattle.ba_session.proofs.JudgeLemmas.{found_result, found_served}
use Rattle.ba_session.specs.Asking.{effort_in}
use Rattle.ba_session.specs.Judging.{IsServing}
use Rattle.ba_session.proofs.request.Request.by_templates.Goals as goal

pub returns-in-Some : goal.returns-in-Some
returns-in-Some g c =
    let effort = effort_in (g.S.Settle.orders c.args.settle.now) c.args.budget in
    let serving = subst (λ q. IsServing c.args.policy.now c.args.self.now q c.args.shard c.args.found.now c.in_ok-served.served) c.deref.ensures c.in_ok-served.ensures in
    found_served c.matched_is_strong.ensures c.args.policy.now c.args.self.now effort c.args.query.now c.requires.fits c.args.shard c.args.found.now c.requires.sound c.in_ok-served.served
    serving c.in-Some.by c.in-Some.is

pub returns-in-None : goal.returns-in-None
returns-in-None g c =
    let effort = effort_in (g.S.Settle.orders c.args.settle.now) c.args.budget in
    let serving = subst (λ q. IsServing c.args.policy.now c.args.self.now q c.args.shard c.args.found.now c.in_ok-served.served) c.deref.ensures c.in_ok-served.ensures in
    found_result c.matched_is_strong.ensures c.args.policy.now c.args.self.now effort c.args.query.now c.requires.fits c.args.shard c.args.found.now c.requires.sound c.in_ok-served.served
    serving c.in-None.is c.search.result c.search.ensures
