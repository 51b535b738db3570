use Rattle.ba_facts.specs.declared.term.Side.TheVariants.{One, Two}
use Rattle.ba_instant.proofs.OfferLemmas.{improves_both}
use Rattle.ba_instant.specs.Offers.{IsMapped}
use Rattle.ba_instant.specs.declared.mapped.Form.TheVariants.{OfRule}
use Rattle.ba_instant.proofs.scan.Scan.offer_rule_part.Goals as goal

pub returns : goal.returns
returns c =
    improves_both c.args.self.now.search.now c.args.self.now.pick (IsMapped c.args.self.now.branch.now c.args.self.now.number (OfRule c.args.rule c.args.number) One c.args.part.now) (IsMapped c.args.self.now.branch.now c.args.self.now.number (OfRule c.args.rule c.args.number) Two c.args.part.now) c.args.best.now c.offer.new.best c.offer-2.new.best
    c.in_ok-offer.ensures c.in_ok-offer-2.ensures
