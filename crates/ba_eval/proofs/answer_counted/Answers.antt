use Rattle.ba_eval.proofs.AnswerLemmas.{is_answer}
use Rattle.ba_eval.proofs.answer_counted.Goals as goal

pub returns-clause-answer : goal.returns-clause-answer
returns-clause-answer g c = is_answer _ _ _ _ _ c.in_ok-found.ensures.found c.in_order.ensures
