use Rattle.ba_instant.proofs.DueLemmas.{keys_first}
use Rattle.ba_instant.proofs.scan.Scan.offer_taught.Goals as goal

pub returns : goal.returns
returns c =
    keys_first c.args.self.now.search.now c.args.self.now.pick c.args.self.now.number c.args.best.now c.offer_keys.new.best c.offer_mapped.new.best c.in_ok-offer_keys.ensures c.in_ok-offer_mapped.ensures
