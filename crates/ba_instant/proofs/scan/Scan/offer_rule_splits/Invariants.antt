use Rattle.ba_instant.proofs.SplitLemmas.{At}
use Rattle.ba_instant.specs.Offers.{Improves, IsSplitOfSides, Upto}
use Rattle.ba_instant.proofs.scan.Scan.offer_rule_splits.Given as goal

-- the rules so far were offered
abbrev pub invariant-loop-rule : goal.invariant-loop-rule
invariant-loop-rule l =
    Improves l.self.search.now l.self.pick
    (Upto (At l.self.search.now l.self.pick l.rules (λ it step. IsSplitOfSides l.self.branch.now l.self.number it.left.parts step)) l.rule-index) l.fn.best l.best
