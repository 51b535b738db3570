use Rattle.std.proofs.Common.{◌≡◌, List, [], rules, subst}
use Rattle.ba_classes.specs.Chains.{Shows}
use Rattle.ba_classes.specs.Image.{IsGreatest}
use Rattle.ba_classes.specs.declared.order.Difference.{Difference}
use Rattle.ba_facts.proofs.shared_order.SharedOrder.gap.Goals as goal

pub returns-in-Some-clause-greatest : goal.returns-in-Some-clause-greatest
returns-in-Some-clause-greatest c =
    subst (λ (facts : List Difference). IsGreatest (λ k. Shows facts c.args.low k c.args.high) c.gap.result) (let e : c.deref.result.now ≡ c.args.self.now = search rules in e) c.gap.ensures.greatest

pub returns-in-None-clause-greatest : goal.returns-in-None-clause-greatest
returns-in-None-clause-greatest c =
    subst (λ (facts : List Difference). IsGreatest (λ k. Shows facts c.args.low k c.args.high) c.no_gap.result) (let e : [] ≡ c.args.self.now = search rules in e) c.no_gap.ensures.greatest
