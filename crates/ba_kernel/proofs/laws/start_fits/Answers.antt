use Rattle.ba_kernel.proofs.StartLemmas.{start_fits}
use Rattle.ba_kernel.proofs.laws.start_fits.Goals as goal

pub returns : goal.returns
returns c = start_fits
