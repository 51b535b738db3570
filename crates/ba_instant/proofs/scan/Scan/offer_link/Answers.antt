use Rattle.ba_instant.proofs.ToldLemmas.{link_told}
use Rattle.ba_instant.proofs.scan.Scan.offer_link.Goals as goal

pub returns-then-has_link : goal.returns-then-has_link
returns-then-has_link c =
    link_told c.args.self.now.search.now c.args.self.now.number c.args.self.now.branch.now c.args.self.now.told.now c.requires.look.of.open_ c.requires.look.told c.args.self.now.pick c.args.link c.args.fact c.args.best.now
    (c.has_link.ensures c.if-has_link.true)
