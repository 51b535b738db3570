use Rattle.std.proofs.Common.{◌≡◌, ◌≤◌, arith, length}
use Rattle.std.proofs.lemmas.Grind.{common_steps}
use Rattle.std.specs.Prelude.{Some, slice_get}
use Rattle.ba_instant.proofs.MapLemmas.{rule_mapped, rule_part_past}
use Rattle.ba_instant.proofs.OfferLemmas.{improves_end, improves_next}
use Rattle.ba_instant.specs.Offers.{IsOfForm}
use Rattle.ba_instant.specs.declared.mapped.Form.TheVariants.{OfRule}
use Rattle.ba_instant.proofs.scan.Scan.offer_rule.Goals as goal

pub loop-part-preserved : goal.loop-part-preserved
loop-part-preserved c =
    let there : slice_get c.args.self.now.search.now.problem.policy.schema.rules c.args.rule ≡ Some c.rule_at-it.result.now = c.rule_at-it.ensures in
    improves_next c.args.self.now.search.now c.args.self.now.pick (λ part. IsOfForm c.args.self.now.number (OfRule c.args.rule part)) c.loop-part.part c.args.best.now c.loop-part.best c.offer_rule_part.new.best c.loop-part.invariant
    (rule_mapped c.args.self.now.search.now c.args.self.now.number c.args.self.now.branch.now c.requires.look.of.open_ c.args.rule c.rule_at-it.result.now there c.args.self.now.pick c.loop-part.part c.get.result.now c.loop-part.best c.offer_rule_part.new.best c.get.ensures
    c.in_ok-offer_rule_part.ensures)

pub returns : goal.returns
returns c =
    let there : slice_get c.args.self.now.search.now.problem.policy.schema.rules c.args.rule ≡ Some c.rule_at-it.result.now = c.rule_at-it.ensures in
    let past : length c.rule_at-it.result.now.left.parts ≤ c.loop-part.part = grind (arith, common_steps) in
    improves_end c.args.self.now.search.now c.args.self.now.pick (λ part. IsOfForm c.args.self.now.number (OfRule c.args.rule part)) c.loop-part.part c.args.best.now c.loop-part.best c.loop-part.invariant
    (λ part step more of new. rule_part_past c.args.self.now.search.now c.args.self.now.number c.args.self.now.branch.now c.requires.look.of.open_ c.args.rule c.rule_at-it.result.now there part step (omega (arith, past, more)) of new)
