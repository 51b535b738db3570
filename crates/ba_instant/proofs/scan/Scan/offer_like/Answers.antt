use Rattle.ba_instant.proofs.SpreadLemmas.{like_decided, over_whole}
use Rattle.ba_instant.proofs.scan.Scan.offer_like.Goals as goal

pub returns-in_ok-offer_over : goal.returns-in_ok-offer_over
returns-in_ok-offer_over c =
    over_whole c.args.self.now.search.now c.args.self.now.pick c.args.self.now.branch.now c.args.self.now.number c.args.cond.now c.args.chosen.now c.new-done.result.items c.args.best.now c.offer_over.new.best
    c.new-done.ensures.items c.in_ok-offer_over.ensures.best

pub returns-else-is_open : goal.returns-else-is_open
returns-else-is_open c =
    like_decided c.args.self.now.search.now c.args.self.now.pick c.args.self.now.branch.now c.args.self.now.number c.args.cond.now c.requires.of.open_ c.args.chosen.now c.args.best.now (λ h. let t = c.is_open.ensures.1 h in cc)
