use Rattle.std.proofs.Common.{inr}
use Rattle.ba_instant.proofs.ScanLemmas.{telling_untimely}
use Rattle.ba_instant.specs.Offers.{IsSplitStep}
use Rattle.ba_instant.proofs.scan.Scan.offer_splits.Goals as goal

pub returns-else-is_timely : goal.returns-else-is_timely
returns-else-is_timely c =
    telling_untimely c.args.self.now.search.now c.args.self.now.number c.args.self.now.quiet c.args.self.now.branch.now c.args.self.now.recent.now c.requires.of c.args.self.now.pick (IsSplitStep c.args.self.now.number) c.args.best.now
    (λ h. let t = c.is_timely.ensures.1 h in cc) (λ step h. inr h)
