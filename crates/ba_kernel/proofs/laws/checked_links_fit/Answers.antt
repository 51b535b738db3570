use Rattle.ba_kernel.proofs.AskedLemmas.{checked_links_fit}
use Rattle.ba_kernel.proofs.laws.checked_links_fit.Goals as goal

pub returns : goal.returns
returns c = checked_links_fit
