use Rattle.std.proofs.Common.{subst, sym}
use Rattle.ba_instant.specs.Partners.{ArePartners}
use Rattle.ba_instant.proofs.scan.Scan.offer_keys_of.Goals as goal

pub offer_keys_with-requires-clause-partners : goal.offer_keys_with-requires-clause-partners
offer_keys_with-requires-clause-partners c =
    subst (ArePartners c.args.self.now.search.now.problem.policy.schema c.args.self.now.branch.now c.args.one) (sym c.deref.ensures.value) c.in_ok-partners.ensures
