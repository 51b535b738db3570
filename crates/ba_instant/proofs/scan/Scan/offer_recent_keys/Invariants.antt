use Rattle.ba_instant.proofs.SplitLemmas.{At}
use Rattle.ba_instant.specs.Scans.{IsKeyInTurn}
use Rattle.ba_instant.specs.Offers.{Improves, OfAny, Upto}
use Rattle.ba_instant.proofs.scan.Scan.offer_recent_keys.Given as goal

-- the keys of the facts so far were offered
abbrev pub invariant-loop-fact : goal.invariant-loop-fact
invariant-loop-fact l =
    Improves l.self.search.now l.self.pick
    (Upto (At l.self.search.now l.self.pick l.self.recent.now (λ one step. OfAny (IsKeyInTurn l.self.branch.now l.self.quiet l.self.number one) step)) l.fact-index) l.fn.best l.best
