use Rattle.ba_eval.proofs.AnswerLemmas.{is_answer}
use Rattle.ba_eval.proofs.answer.Goals as goal

pub returns-then-are_few : goal.returns-then-are_few
returns-then-are_few c = is_answer _ _ _ _ _ c.in_ok-found.ensures c.in_order.ensures
