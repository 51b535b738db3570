use Rattle.ba_instant.proofs.DueLemmas.{by_mapping}
use Rattle.ba_instant.proofs.scan.Scan.offer_mapped.Goals as goal

pub returns : goal.returns
returns c =
    by_mapping c.args.self.now.search.now c.args.self.now.pick c.args.self.now.number c.args.best.now c.offer_rules.new.best c.offer_views.new.best c.in_ok-offer_rules.ensures c.in_ok-offer_views.ensures
