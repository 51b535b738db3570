use Rattle.ba_machine_laws.proofs.WholeLemmas.{request_is_a_run}
use Rattle.ba_machine_laws.proofs.laws.request_is_a_run.Goals as goal

pub returns : goal.returns
returns c = request_is_a_run (record {
  unique = c.answer_is_unique.ensures;
  records = c.answers_are_records.ensures;
  closed = c.closed_is_strong.ensures;
  covers = c.cover_covers.ensures;
  covered = c.covered_is_strong.ensures;
  matched = c.matched_is_strong.ensures;
  problem = c.problem_is_question.ensures;
  question = c.question_is_problem.ensures;
  complies = c.strong_complies.ensures;
})
