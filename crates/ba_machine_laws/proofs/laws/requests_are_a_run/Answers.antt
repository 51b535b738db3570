use Rattle.ba_machine_laws.proofs.ComplyLemmas.{answers_comply}
use Rattle.ba_machine_laws.proofs.ReadingLemmas.{reading_is_checked}
use Rattle.ba_machine_laws.proofs.RequestLemmas.{requests_are_a_run}
use Rattle.ba_machine_laws.proofs.laws.requests_are_a_run.Goals as goal

pub returns : goal.returns
returns c = requests_are_a_run (record {
  begins = c.begin_agrees.ensures;
  asks = c.ask_agrees.ensures;
  read_agrees = c.read_agrees.ensures;
  ends = c.end_agrees.ensures;
  found = c.found_is_admitted.ensures;
  complies = answers_comply (record {
    records = c.answers_are_records.ensures;
    closed = c.closed_is_strong.ensures;
    covers = c.cover_covers.ensures;
    covered = c.covered_is_strong.ensures;
    matched = c.matched_is_strong.ensures;
    problem = c.problem_is_question.ensures;
    question = c.question_is_problem.ensures;
    complies = c.strong_complies.ensures;
  });
  reads = reading_is_checked;
  strong = c.strong_complies.ensures;
})
