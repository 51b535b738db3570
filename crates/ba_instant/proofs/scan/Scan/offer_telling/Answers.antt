use Rattle.ba_instant.proofs.DueLemmas.{all_telling}
use Rattle.ba_instant.proofs.scan.Scan.offer_telling.Goals as goal

pub returns : goal.returns
returns c =
    all_telling c.args.self.now.search.now c.args.self.now.pick c.args.self.now.number c.args.best.now c.offer_entries.new.best c.offer_links.new.best c.offer_taught.new.best
    c.offer_splits.new.best c.in_ok-offer_entries.ensures c.in_ok-offer_links.ensures c.in_ok-offer_taught.ensures c.in_ok-offer_splits.ensures
