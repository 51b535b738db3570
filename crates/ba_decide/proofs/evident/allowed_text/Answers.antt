use Rattle.std.proofs.Common.{sym, subst}
use Rattle.ba_kernel.specs.Drafts.{IsChecked}
use Rattle.ba_decide.proofs.EvidentLemmas.{policy_checked}
use Rattle.ba_decide.proofs.evident.allowed_text.Goals as goal

pub basis_text-requires : goal.basis_text-requires
basis_text-requires c = record { checked = subst IsChecked (sym c.policy-policy.ensures) (policy_checked c.args.live.now c.requires.sound c.checked_links_fit.ensures) }
