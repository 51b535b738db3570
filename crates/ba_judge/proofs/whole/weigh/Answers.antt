use Rattle.ba_judge.proofs.JudgeLemmas.{contradicts, proved_at, proved_of_question, rests_on_truth}
use Rattle.ba_judge.specs.Judging.{effort_in, seen}
use Rattle.ba_judge.proofs.whole.weigh.Goals as goal

pub by_proof-requires : goal.by_proof-requires
by_proof-requires g c = record {
  question = proved_of_question (seen c.args.asked.now) (effort_in (g.S.Settle.orders c.args.settle.now) c.args.budget) c.args.proved c.requires.ends c.requires.fits;
}

pub returns-in-Some-clause-concludes : goal.returns-in-Some-clause-concludes
returns-in-Some-clause-concludes g c =
    contradicts (seen c.args.asked.now) (effort_in (g.S.Settle.orders c.args.settle.now) c.args.budget) c.args.proved.steps c.in_ok-found.found c.in_ok-found.ensures c.in-Some.steps c.in-Some.is c.requires.uncovered

pub returns-in-None-clause-concludes : goal.returns-in-None-clause-concludes
returns-in-None-clause-concludes g c =
    let asked = seen c.args.asked.now in
    let effort = effort_in (g.S.Settle.orders c.args.settle.now) c.args.budget in
    proved_at asked effort c.args.proved c.requires.ends c.by_proof.result c.by_proof.ensures.by c.problem_is_question.ensures c.requires.fits c.requires.uncovered
    (rests_on_truth asked effort c.args.proved.steps c.in_ok-found.found c.in_ok-found.ensures c.in-None.is) c.by_proof.ensures.strong
