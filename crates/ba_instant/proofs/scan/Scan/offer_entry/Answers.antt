use Rattle.ba_instant.proofs.ScanLemmas.{entry_in, entry_past}
use Rattle.ba_instant.proofs.ToldLemmas.{entry_told}
use Rattle.ba_instant.proofs.scan.Scan.offer_entry.Goals as goal

pub returns-then-has_entry : goal.returns-then-has_entry
returns-then-has_entry c =
    entry_told c.args.self.now.search.now c.args.self.now.number c.args.self.now.branch.now c.args.self.now.told.now c.requires.look.of.open_ c.requires.look.told c.args.self.now.pick c.args.entry c.args.best.now
    (c.has_entry.ensures c.if-has_entry.true)

pub returns-then-round-self : goal.returns-then-round-self
returns-then-round-self c =
    entry_past c.args.self.now.search.now c.args.self.now.number c.args.self.now.quiet c.args.self.now.branch.now c.args.self.now.recent.now c.requires.look.of c.args.self.now.pick c.args.entry c.entry_round-round.result c.args.best.now c.entry_round-round.ensures c.if-round-self.true

pub offer_at-requires : goal.offer_at-requires
offer_at-requires c =
    entry_in c.args.self.now.search.now c.args.self.now.number c.args.self.now.quiet c.args.self.now.branch.now c.args.self.now.recent.now c.requires.look.of c.args.entry c.entry_round-round.result _ c.entry_round-round.ensures c.from.ensures
