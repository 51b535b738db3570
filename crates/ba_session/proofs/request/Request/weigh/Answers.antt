use Rattle.std.proofs.lemmas.Result.{err_from_is_err_and}
use Rattle.ba_session.proofs.JudgeLemmas.{weighs_cover, weighs_nothing}
use Rattle.ba_session.specs.Asking.{effort_in}
use Rattle.ba_session.proofs.request.Request.weigh.Goals as goal

pub returns-in_err-covered-clause-weighs : goal.returns-in_err-covered-clause-weighs
returns-in_err-covered-clause-weighs g c =
    let p = err_from_is_err_and c.from_residual.result c.from_residual.ensures.1 in
    weighs_nothing c.args.service.now.policy c.args.self.now (effort_in (g.S.Settle.orders c.args.settle.now) c.args.budget) c.args.query.now c.from_residual.result p.0 p.1 c.args.passes.now

pub returns-in-Some-clause-weighs : goal.returns-in-Some-clause-weighs
returns-in-Some-clause-weighs g c =
    weighs_cover c.args.service.now.policy c.args.self.now (effort_in (g.S.Settle.orders c.args.settle.now) c.args.budget) c.args.query.now c.requires.fits c.deref.result.now c.deref-2.result.now c.deref.ensures c.deref-2.ensures
    c.in_ok-covered.covered c.in-Some.cover c.in-Some.is c.in_ok-covered.ensures.exact c.in_ok-covered.ensures.strong c.args.passes.now
