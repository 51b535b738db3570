use Rattle.ba_proof.proofs.CheckLemmas.{is_refused, is_strong}
use Rattle.ba_proof.proofs.checking.check.Goals as goal

pub returns-clause-refused : goal.returns-clause-refused
returns-clause-refused c = is_refused c.replays_have_one_end.ensures c.args.proof.problem c.args.proof.steps c.taken.result c.requires.fits c.taken.ensures

pub returns-clause-strong : goal.returns-clause-strong
returns-clause-strong c =
    is_strong c.closed_is_strong.ensures c.problem_is_question.ensures c.args.proof.problem c.args.proof.steps c.taken.result c.requires.fits c.taken.ensures
