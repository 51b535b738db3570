use Rattle.ba_audit.proofs.SoundLemmas.{evidence_strong}
use Rattle.ba_audit.proofs.laws.evidence_is_strong.Goals as goal

pub returns : goal.returns
returns c = evidence_strong c.covered_is_strong.ensures c.closed_is_strong.ensures c.problem_is_question.ensures c.question_is_problem.ensures
