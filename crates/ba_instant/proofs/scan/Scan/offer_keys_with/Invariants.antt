use Rattle.ba_instant.proofs.SplitLemmas.{At}
use Rattle.ba_instant.specs.Scans.{IsKeyInTurn}
use Rattle.ba_instant.specs.Offers.{Improves, Upto}
use Rattle.ba_instant.proofs.scan.Scan.offer_keys_with.Given as goal

-- the keys of the fact and the partners so far were offered
abbrev pub invariant-loop-other : goal.invariant-loop-other
invariant-loop-other l =
    Improves l.self.search.now l.self.pick (Upto (At l.self.search.now l.self.pick l.partners (IsKeyInTurn l.self.branch.now l.self.quiet l.self.number l.one)) l.other-index) l.fn.best l.best
