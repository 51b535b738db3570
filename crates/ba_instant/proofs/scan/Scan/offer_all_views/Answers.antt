use Rattle.std.proofs.Common.{◌≤◌, arith, length}
use Rattle.std.proofs.lemmas.Grind.{common_steps}
use Rattle.ba_instant.proofs.MapLemmas.{view_past}
use Rattle.ba_instant.proofs.OfferLemmas.{improves_end, improves_next}
use Rattle.ba_instant.specs.Offers.{IsOfView}
use Rattle.ba_instant.proofs.scan.Scan.offer_all_views.Goals as goal

pub loop-view-preserved : goal.loop-view-preserved
loop-view-preserved c =
    improves_next c.args.self.now.search.now c.args.self.now.pick (IsOfView c.args.self.now.number) c.loop-view.view c.args.best.now c.loop-view.best c.offer_view.new.best c.loop-view.invariant
    c.in_ok-offer_view.ensures

pub returns : goal.returns
returns c =
    let past : length c.args.self.now.search.now.problem.policy.views ≤ c.loop-view.view = grind (arith, common_steps) in
    improves_end c.args.self.now.search.now c.args.self.now.pick (IsOfView c.args.self.now.number) c.loop-view.view c.args.best.now c.loop-view.best c.loop-view.invariant
    (λ view step more of new. view_past c.args.self.now.search.now c.args.self.now.number c.args.self.now.branch.now c.requires.of.open_ view step (omega (arith, past, more)) of new)
