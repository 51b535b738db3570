use Rattle.std.proofs.Common.{subst}
use Rattle.ba_facts.specs.declared.term.Side.TheVariants.{Two}
use Rattle.std.specs.Prelude.{Some}
use Rattle.ba_instant.proofs.SplitLemmas.{split_all}
use Rattle.ba_instant.specs.Offers.{Improves, IsSplitOfParts, IsSplitOfRules, IsSplitOfViews}
use Rattle.ba_instant.proofs.scan.Scan.offer_all_splits.Goals as goal

pub returns : goal.returns
returns c =
    split_all c.args.self.now.search.now c.args.self.now.pick c.args.self.now.number c.args.self.now.branch.now c.requires.of.open_ c.args.best.now c.offer_view_splits.new.best c.offer_rule_splits.new.best c.offer_part_splits.new.best
    (subst (λ xs. Improves c.args.self.now.search.now c.args.self.now.pick (IsSplitOfViews c.args.self.now.branch.now c.args.self.now.number xs) c.args.best.now c.offer_view_splits.new.best)
    c.views.ensures c.in_ok-offer_view_splits.ensures)
    (subst (λ xs. Improves c.args.self.now.search.now c.args.self.now.pick (IsSplitOfRules c.args.self.now.branch.now c.args.self.now.number xs) c.offer_view_splits.new.best c.offer_rule_splits.new.best)
    c.rules.ensures c.in_ok-offer_rule_splits.ensures)
    (subst (λ xs. Improves c.args.self.now.search.now c.args.self.now.pick (IsSplitOfParts c.args.self.now.branch.now c.args.self.now.number Two (Some c.args.self.now.branch.now.goal) xs) c.offer_rule_splits.new.best c.offer_part_splits.new.best)
    c.goal_parts.ensures
    (subst (λ row. Improves c.args.self.now.search.now c.args.self.now.pick (IsSplitOfParts c.args.self.now.branch.now c.args.self.now.number Two (Some row) c.goal_parts.result.now) c.offer_rule_splits.new.best c.offer_part_splits.new.best)
    c.deref-row.ensures c.in_ok-offer_part_splits.ensures))
