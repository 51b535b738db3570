use Rattle.std.proofs.Common.{subst, sym}
use Rattle.ba_instant.proofs.QuietLemmas.{quiet_at_first}
use Rattle.ba_instant.specs.Scans.{AreRecent}
use Rattle.ba_instant.proofs.due.OpenBranch.mapped_steps.Goals as goal

pub offer_mapped-requires : goal.offer_mapped-requires
offer_mapped-requires c = record {
  of = record {
    open_ = c.requires.open;
    quiet_ = quiet_at_first c.args.self.now.search.now.problem c.args.self.now.branch.now c.args.self.now.number;
    recent_ = subst (AreRecent c.args.self.now.branch.now 0) (sym c.deref.ensures.value) c.in_ok-recent.ensures;
  };
  told = c.requires.told;
}
