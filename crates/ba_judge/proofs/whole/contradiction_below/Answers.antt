use Rattle.ba_judge.proofs.JudgeLemmas.{told_fits}
use Rattle.ba_judge.specs.Judging.{seen}
use Rattle.ba_judge.proofs.whole.contradiction_below.Goals as goal

pub contradiction-requires-clause-fits : goal.contradiction-requires-clause-fits
contradiction-requires-clause-fits g c = told_fits (seen c.args.asked.now) c.requires.fits
