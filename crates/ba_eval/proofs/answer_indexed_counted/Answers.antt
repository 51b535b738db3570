use Rattle.ba_eval.proofs.AnswerLemmas.{is_answer}
use Rattle.ba_eval.proofs.answer_indexed_counted.Goals as goal

pub returns-clause-answer : goal.returns-clause-answer
returns-clause-answer g c =
    let found = c.in_ok-found.ensures.found in
    is_answer _ _ _ _ _ (rw c.rows.ensures at found) c.in_order.ensures
