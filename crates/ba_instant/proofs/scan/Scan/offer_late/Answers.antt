use Rattle.ba_instant.proofs.LateLemmas.{offered_late}
use Rattle.ba_instant.proofs.scan.Scan.offer_late.Goals as goal

pub returns-then-is_passed : goal.returns-then-is_passed
returns-then-is_passed c = offered_late c.args.self.now.search.now c.args.self.now.pick c.args.best.now c.args.step c.args.least (c.is_passed.ensures c.if-is_passed.true) c.requires
