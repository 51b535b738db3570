use Rattle.ba_judge.proofs.JudgeLemmas.{fits_seen, problem_seen, refutal_seen, refuted, stuck}
use Rattle.ba_judge.specs.Judging.{seen}
use Rattle.ba_judge.proofs.whole.reason_of.Goals as goal

pub try_pair-requires-clause-fits : goal.try_pair-requires-clause-fits
try_pair-requires-clause-fits c = fits_seen (seen c.args.asked.now) c.deref.result.now c.deref-2.result.now c.deref.ensures c.deref-2.ensures c.requires.fits

pub try_pair-requires-clause-problem : goal.try_pair-requires-clause-problem
try_pair-requires-clause-problem c = problem_seen (seen c.args.asked.now) c.deref.result.now c.deref-2.result.now c.deref.ensures c.deref-2.ensures c.args.leaf.problem c.requires.problem

pub returns-in-Pair : goal.returns-in-Pair
returns-in-Pair c =
    refuted (seen c.args.asked.now) c.args.leaf c.requires.problem c.in_ok-refutal.refutal
    (refutal_seen (seen c.args.asked.now) c.deref.result.now c.deref-2.result.now c.deref.ensures c.deref-2.ensures c.args.leaf c.in_ok-refutal.refutal c.in_ok-refutal.ensures) c.in-Pair.pair c.in-Pair.is

pub returns-in-Stuck : goal.returns-in-Stuck
returns-in-Stuck c =
    stuck (seen c.args.asked.now) c.args.leaf c.requires.problem c.in_ok-refutal.refutal
    (refutal_seen (seen c.args.asked.now) c.deref.result.now c.deref-2.result.now c.deref.ensures c.deref-2.ensures c.args.leaf c.in_ok-refutal.refutal c.in_ok-refutal.ensures) c.in-Stuck.leaf c.in-Stuck.clause c.in-Stuck.is
