use Rattle.ba_eval.proofs.AnswerLemmas.{is_answer}
use Rattle.ba_eval.proofs.answer_unbounded.Goals as goal

pub returns : goal.returns
returns g c =
    let found = c.in_ok-found.ensures.found in
    is_answer _ _ _ _ _ (rw c.rows.ensures at found) c.in_order.ensures
