use Rattle.ba_judge.proofs.JudgeLemmas.{served}
use Rattle.ba_judge.specs.Judging.{effort_in, seen}
use Rattle.ba_judge.specs.Shelves.Learns.{nothing}
use Rattle.ba_judge.proofs.whole.conclude.Goals as goal

pub returns-in-Some-clause-concludes : goal.returns-in-Some-clause-concludes
returns-in-Some-clause-concludes g c =
    served c.matched_is_strong.ensures (seen c.args.asked.now) (effort_in (g.S.Settle.orders c.args.settle.now) c.args.budget) c.as_slice.result.now c.requires.fits.context c.requires.uncovered
    c.in_ok-served.served c.in_ok-served.ensures c.in-Some.by c.in-Some.is

pub returns-in_err-found-clause-learns : goal.returns-in_err-found-clause-learns
returns-in_err-found-clause-learns g c = nothing c.in_err-found.ensures.err
