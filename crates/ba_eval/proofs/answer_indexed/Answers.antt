use Rattle.ba_eval.proofs.KeptLemmas.{if_ok_weaker}
use Rattle.ba_eval.proofs.TurnLemmas.{answer_as}
use Rattle.ba_eval.proofs.answer_indexed.Goals as goal

pub returns : goal.returns
returns c =
    if_ok_weaker c.answer_unbounded.result (λ list h. answer_as _ _ _ _ _ c.in_ok-other.ensures h) c.answer_unbounded.ensures
