use Rattle.std.proofs.Common.{subst}
use Rattle.ba_facts.specs.declared.term.Side.TheVariants.{One}
use Rattle.ba_kernel.specs.NewParts.{IsAtomOfParts}
use Rattle.std.specs.Prelude.{None}
use Rattle.ba_instant.proofs.SplitLemmas.{at_all, at_more, split_some}
use Rattle.ba_instant.specs.Offers.{Improves, IsSplitOfParts}
use Rattle.ba_instant.proofs.scan.Scan.offer_view_splits.Goals as goal

pub loop-view-preserved : goal.loop-view-preserved
loop-view-preserved c =
    at_more c.args.self.now.search.now c.args.self.now.pick c.args.views.now (λ it step. IsSplitOfParts c.args.self.now.branch.now c.args.self.now.number One None it.query.parts step) c.loop-view.view-index c.view-item.result c.args.best.now c.loop-view.best
    c.offer_part_splits.new.best c.loop-view-test.true c.view-item.is c.loop-view.invariant
    (subst (λ parts. Improves c.args.self.now.search.now c.args.self.now.pick (IsSplitOfParts c.args.self.now.branch.now c.args.self.now.number One None parts) c.loop-view.best c.offer_part_splits.new.best) c.as_slice.ensures
    c.in_ok-offer_part_splits.ensures)

pub returns : goal.returns
returns c =
    split_some c.args.self.now.search.now c.args.self.now.pick c.args.self.now.number c.args.views.now (λ view. IsAtomOfParts c.args.self.now.branch.now One view.query.parts None) c.args.best.now c.loop-view.best
    (at_all c.args.self.now.search.now c.args.self.now.pick c.args.views.now (λ it step. IsSplitOfParts c.args.self.now.branch.now c.args.self.now.number One None it.query.parts step) c.loop-view.view-index c.args.best.now c.loop-view.best c.loop-view-test.false c.loop-view.invariant)
