use Rattle.std.proofs.Common.{subst, sym}
use Rattle.ba_instant.specs.Scans.{AreRecent}
use Rattle.ba_instant.proofs.due.OpenBranch.telling_steps.Goals as goal

pub offer_telling-requires : goal.offer_telling-requires
offer_telling-requires c = record {
  of = record {
    open_ = c.requires.open;
    quiet_ = c.requires.quiet;
    recent_ = subst (AreRecent c.args.self.now.branch.now c.args.quiet) (sym c.deref.ensures.value) c.in_ok-recent.ensures;
  };
  told = c.requires.told;
}
