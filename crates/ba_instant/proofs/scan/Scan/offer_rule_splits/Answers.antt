use Rattle.std.proofs.Common.{subst}
use Rattle.ba_kernel.specs.NewParts.{IsAtomOfSides}
use Rattle.ba_instant.proofs.SplitLemmas.{at_all, at_more, split_some}
use Rattle.ba_instant.specs.Offers.{Improves, IsSplitOfSides}
use Rattle.ba_instant.proofs.scan.Scan.offer_rule_splits.Goals as goal

pub loop-rule-preserved : goal.loop-rule-preserved
loop-rule-preserved c =
    at_more c.args.self.now.search.now c.args.self.now.pick c.args.rules.now (λ it step. IsSplitOfSides c.args.self.now.branch.now c.args.self.now.number it.left.parts step) c.loop-rule.rule-index c.rule-item.result c.args.best.now c.loop-rule.best
    c.offer_side_splits.new.best c.loop-rule-test.true c.rule-item.is c.loop-rule.invariant
    (subst (λ parts. Improves c.args.self.now.search.now c.args.self.now.pick (IsSplitOfSides c.args.self.now.branch.now c.args.self.now.number parts) c.loop-rule.best c.offer_side_splits.new.best) c.as_slice.ensures
    c.in_ok-offer_side_splits.ensures)

pub returns : goal.returns
returns c =
    split_some c.args.self.now.search.now c.args.self.now.pick c.args.self.now.number c.args.rules.now (λ rule. IsAtomOfSides c.args.self.now.branch.now rule.left.parts) c.args.best.now c.loop-rule.best
    (at_all c.args.self.now.search.now c.args.self.now.pick c.args.rules.now (λ it step. IsSplitOfSides c.args.self.now.branch.now c.args.self.now.number it.left.parts step) c.loop-rule.rule-index c.args.best.now c.loop-rule.best c.loop-rule-test.false c.loop-rule.invariant)
