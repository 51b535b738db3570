use Rattle.ba_instant.proofs.MapLemmas.{goal_mapped}
use Rattle.ba_instant.proofs.ReachLemmas.{goal_unreached}
use Rattle.ba_instant.proofs.scan.Scan.offer_goal.Goals as goal

pub returns-in_ok-offer : goal.returns-in_ok-offer
returns-in_ok-offer c =
    goal_mapped c.args.self.now.search.now c.args.self.now.number c.args.self.now.branch.now c.requires.look.of.open_ c.args.self.now.pick c.args.number c.goal_part-part.result.now c.args.best.now c.offer.new.best c.goal_part-part.ensures c.in_ok-offer.ensures

pub returns-else-branch : goal.returns-else-branch
returns-else-branch c =
    goal_unreached c.args.self.now.search.now c.args.self.now.pick c.args.self.now.number c.args.self.now.branch.now c.requires.look.of.open_ c.args.number c.goal_part-part.result.now c.deref-row.result.now c.args.best.now c.goal_part-part.ensures c.deref-row.ensures
    (c.in_ok-is_reached.ensures (λ h. let e = c.if-branch.false in cc))
