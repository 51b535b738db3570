use Rattle.ba_instant.proofs.ScanLemmas.{round_least}
use Rattle.ba_instant.proofs.scan.Scan.offer_at.Goals as goal

pub offer_late-requires : goal.offer_late-requires
offer_late-requires c = λ other new is. round_least c.args.self.now.search.now c.args.step c.args.round other c.requires is
