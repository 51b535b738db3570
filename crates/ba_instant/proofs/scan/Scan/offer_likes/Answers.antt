use Rattle.ba_instant.proofs.SplitLemmas.{at_all, at_more, split_some}
use Rattle.ba_instant.specs.Spreads.{IsLikeAtom, IsLikeSplit}
use Rattle.ba_instant.proofs.scan.Scan.offer_likes.Goals as goal

pub loop-cond-preserved : goal.loop-cond-preserved
loop-cond-preserved c =
    at_more c.args.self.now.search.now c.args.self.now.pick c.args.conds.now (λ it step. IsLikeSplit c.args.self.now.branch.now c.args.self.now.number c.args.chosen.now it step) c.loop-cond.cond-index c.cond-item.result c.args.best.now c.loop-cond.best
    c.offer_like.new.best c.loop-cond-test.true c.cond-item.is c.loop-cond.invariant c.in_ok-offer_like.ensures

pub returns : goal.returns
returns c =
    split_some c.args.self.now.search.now c.args.self.now.pick c.args.self.now.number c.args.conds.now (λ cond. IsLikeAtom c.args.self.now.branch.now c.args.chosen.now cond) c.args.best.now c.loop-cond.best
    (at_all c.args.self.now.search.now c.args.self.now.pick c.args.conds.now (λ it step. IsLikeSplit c.args.self.now.branch.now c.args.self.now.number c.args.chosen.now it step) c.loop-cond.cond-index c.args.best.now c.loop-cond.best c.loop-cond-test.false c.loop-cond.invariant)
