use Rattle.ba_instant.proofs.SplitLemmas.{At}
use Rattle.ba_instant.specs.Offers.{Improves, IsLinkOfFact, Upto}
use Rattle.ba_instant.proofs.scan.Scan.offer_links.Given as goal

-- the links of the facts so far were offered
abbrev pub invariant-loop-fact : goal.invariant-loop-fact
invariant-loop-fact l =
    Improves l.self.search.now l.self.pick
    (Upto (At l.self.search.now l.self.pick l.self.recent.now (λ fact step. IsLinkOfFact l.self.number fact step)) l.fact-index) l.fn.best l.best
