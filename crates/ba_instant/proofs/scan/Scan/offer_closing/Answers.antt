use Rattle.ba_instant.proofs.DueLemmas.{all_closing}
use Rattle.ba_instant.proofs.scan.Scan.offer_closing.Goals as goal

pub returns : goal.returns
returns c =
    all_closing c.args.self.now.search.now c.args.self.now.pick c.args.self.now.number c.args.best.now c.offer.new.best c.offer_goals.new.best c.in_ok-offer.ensures c.in_ok-offer_goals.ensures
