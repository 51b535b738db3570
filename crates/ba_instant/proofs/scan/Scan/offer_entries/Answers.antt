use Rattle.ba_instant.proofs.ScanLemmas.{entries_past}
use Rattle.ba_instant.proofs.scan.Scan.offer_entries.Goals as goal

pub returns-else-self-lt2 : goal.returns-else-self-lt2
returns-else-self-lt2 c = entries_past c.args.self.now.search.now c.args.self.now.number c.args.self.now.quiet c.args.self.now.branch.now c.args.self.now.recent.now c.requires.of c.args.self.now.pick c.args.best.now c.if-self-lt2.false
