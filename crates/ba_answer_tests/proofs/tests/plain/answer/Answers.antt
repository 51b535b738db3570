use Rattle.ba_answer_tests.proofs.PlainAnswerLemmas.{is_answer}
use Rattle.ba_answer_tests.proofs.tests.plain.answer.Goals as goal

pub returns : goal.returns
returns c = is_answer _ _ _ _ _ c.in_ok-found.ensures c.in_order.ensures
