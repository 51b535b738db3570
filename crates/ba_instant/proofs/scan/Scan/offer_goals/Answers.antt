use Rattle.std.proofs.Common.{◌≤◌, arith, length}
use Rattle.std.proofs.lemmas.Grind.{common_steps}
use Rattle.ba_instant.proofs.MapLemmas.{goal_past}
use Rattle.ba_instant.proofs.OfferLemmas.{improves_end, improves_next}
use Rattle.ba_instant.specs.Offers.{IsOfForm}
use Rattle.ba_instant.specs.declared.mapped.Form.TheVariants.{OfGoal}
use Rattle.ba_instant.proofs.scan.Scan.offer_goals.Goals as goal

pub loop-part-preserved : goal.loop-part-preserved
loop-part-preserved c =
    improves_next c.args.self.now.search.now c.args.self.now.pick (λ part. IsOfForm c.args.self.now.number (OfGoal part)) c.loop-part.part c.args.best.now c.loop-part.best c.offer_goal.new.best c.loop-part.invariant c.in_ok-offer_goal.ensures

pub returns : goal.returns
returns c =
    let past : length c.args.self.now.search.now.problem.goal.parts ≤ c.loop-part.part = grind (arith, common_steps) in
    improves_end c.args.self.now.search.now c.args.self.now.pick (λ part. IsOfForm c.args.self.now.number (OfGoal part)) c.loop-part.part c.args.best.now c.loop-part.best c.loop-part.invariant
    (λ part step more of new. goal_past c.args.self.now.search.now c.args.self.now.number c.args.self.now.branch.now c.requires.of.open_ part step (omega (arith, past, more)) of new)
