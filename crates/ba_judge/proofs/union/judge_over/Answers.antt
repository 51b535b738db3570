use Rattle.ba_judge.proofs.WeakerLemmas.{gives_at, question_fits}
use Rattle.ba_judge.specs.Judging.{effort_in, seen}
use Rattle.ba_judge.proofs.union.judge_over.Goals as goal

pub judge_once-requires-clause-fits : goal.judge_once-requires-clause-fits
judge_once-requires-clause-fits g c = question_fits c.weaker_is_query.ensures (seen c.args.asked.now) c.args.trace.now c.requires.weaker c.requires.fits

pub returns-clause-gives : goal.returns-clause-gives
returns-clause-gives g c =
    let effort = effort_in (g.S.Settle.orders c.args.settle.now) c.args.budget in
    let tells = c.in_ok-outcome.ensures in
    gives_at c.weaker_rows_prove.ensures (seen c.args.asked.now) effort c.args.shelves.now c.judge_once.new.shelves c.args.trace.now c.requires.weaker c.in_ok-outcome.outcome tells.judges tells.first tells.parts
    c.judge_once.ensures.learns c.into_weaker.result c.into_weaker.ensures
