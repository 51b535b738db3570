use Rattle.ba_refute.proofs.UnknownLemmas.{least_exact, true_of_equal, equal_of_true}
use Rattle.ba_refute.proofs.unknowns.is_least.Goals as goal

pub returns : goal.returns
returns c =
    let exact = least_exact c.args.known.now c.args.n c.least_of.result c.least_of.ensures c.requires in (
      λ t. exact.0 (equal_of_true c.least_of.result c.args.n t),
      λ h. true_of_equal c.least_of.result c.args.n (exact.1 h),
    )
