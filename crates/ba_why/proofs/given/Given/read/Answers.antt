use Rattle.std.proofs.Common.{subst, sym}
use Rattle.ba_kernel.specs.Drafts.{IsChecked}
use Rattle.ba_why.proofs.PolicyLemmas.{is_checked}
use Rattle.ba_why.proofs.given.Given.read.Goals as goal

pub invariant_of-result : goal.invariant_of-result
invariant_of-result c =
    subst IsChecked (sym c.in_ok-policy.ensures)
    (is_checked c.checked_links_fit.ensures c.in-Ok.policy c.in_ok-schema.schema c.in-Ok.ensures.same c.in-Ok.ensures.fits c.in_ok-schema.ensures.tables c.in_ok-schema.ensures.rules)
