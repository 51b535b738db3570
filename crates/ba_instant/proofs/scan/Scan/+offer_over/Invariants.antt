use Rattle.std.proofs.Common.{◌≡◌, length}
use Rattle.ba_instant.proofs.SplitLemmas.{At}
use Rattle.ba_instant.proofs.SpreadLemmas.{Next}
use Rattle.ba_instant.specs.Offers.{Improves, Upto}
use Rattle.ba_instant.proofs.scan.Scan.+offer_over.Given as goal

abbrev pub decreases-offer_over : goal.decreases-offer_over
decreases-offer_over l = length l.left.now

-- the facts that are done are as before, and the splits with the choices so far were offered
abbrev pub invariant-loop-choice : goal.invariant-loop-choice
invariant-loop-choice l = record {
  done : l.done.items ≡ l.fn.done.items;
  best : Improves l.self.search.now l.self.pick
      (Upto (At l.self.search.now l.self.pick l.choice-items
      (λ choice step. Next l.self.search.now l.self.pick l.self.branch.now l.self.number l.cond l.rest l.fn.done.items choice step))
      l.choice-index) l.fn.best l.best;
}
