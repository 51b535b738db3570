use Rattle.ba_facts.specs.declared.term.Side.TheVariants.{One}
use Rattle.ba_instant.proofs.SplitLemmas.{At}
use Rattle.std.specs.Prelude.{None}
use Rattle.ba_instant.specs.Offers.{Improves, IsSplitOfParts, Upto}
use Rattle.ba_instant.proofs.scan.Scan.offer_view_splits.Given as goal

-- the views so far were offered
abbrev pub invariant-loop-view : goal.invariant-loop-view
invariant-loop-view l =
    Improves l.self.search.now l.self.pick
    (Upto (At l.self.search.now l.self.pick l.views (λ it step. IsSplitOfParts l.self.branch.now l.self.number One None it.query.parts step)) l.view-index) l.fn.best l.best
