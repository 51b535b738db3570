use Rattle.ba_instant.specs.Offers.{Improves, IsOfView, Upto}
use Rattle.ba_instant.proofs.scan.Scan.offer_all_views.Given as goal

-- the views so far were offered
abbrev pub invariant-loop-view : goal.invariant-loop-view
invariant-loop-view l = Improves l.self.search.now l.self.pick (Upto (IsOfView l.self.number) l.view) l.fn.best l.best
