use Rattle.std.proofs.Common.{◌≤◌, arith, length}
use Rattle.std.proofs.lemmas.Grind.{common_steps}
use Rattle.ba_instant.proofs.MapLemmas.{rule_past}
use Rattle.ba_instant.proofs.OfferLemmas.{improves_end, improves_next}
use Rattle.ba_instant.specs.Offers.{IsOfRule}
use Rattle.ba_instant.proofs.scan.Scan.offer_all_rules.Goals as goal

pub loop-rule-preserved : goal.loop-rule-preserved
loop-rule-preserved c =
    improves_next c.args.self.now.search.now c.args.self.now.pick (IsOfRule c.args.self.now.number) c.loop-rule.rule c.args.best.now c.loop-rule.best c.offer_rule.new.best c.loop-rule.invariant
    c.in_ok-offer_rule.ensures

pub returns : goal.returns
returns c =
    let past : length c.args.self.now.search.now.problem.policy.schema.rules ≤ c.loop-rule.rule = grind (arith, common_steps) in
    improves_end c.args.self.now.search.now c.args.self.now.pick (IsOfRule c.args.self.now.number) c.loop-rule.rule c.args.best.now c.loop-rule.best c.loop-rule.invariant
    (λ rule step more of new. rule_past c.args.self.now.search.now c.args.self.now.number c.args.self.now.branch.now c.requires.of.open_ rule step (omega (arith, past, more)) of new)
