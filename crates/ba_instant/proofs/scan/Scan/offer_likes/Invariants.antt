use Rattle.ba_instant.proofs.SplitLemmas.{At}
use Rattle.ba_instant.specs.Offers.{Improves, Upto}
use Rattle.ba_instant.specs.Spreads.{IsLikeSplit}
use Rattle.ba_instant.proofs.scan.Scan.offer_likes.Given as goal

-- the atoms so far were offered
abbrev pub invariant-loop-cond : goal.invariant-loop-cond
invariant-loop-cond l =
    Improves l.self.search.now l.self.pick
    (Upto (At l.self.search.now l.self.pick l.conds (λ it step. IsLikeSplit l.self.branch.now l.self.number l.chosen it step)) l.cond-index) l.fn.best l.best
