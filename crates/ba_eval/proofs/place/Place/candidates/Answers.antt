use Rattle.ba_eval.proofs.CandidateLemmas.{made_candidates}
use Rattle.ba_eval.proofs.KeptLemmas.{if_ok_weaker, kept_candidates}
use Rattle.ba_eval.proofs.place.Place.candidates.Goals as goal

pub returns-in-Made : goal.returns-in-Made
returns-in-Made c =
    let key_is = c.in_ok-key.ensures in
    let source = c.requires.source_is in
    let numbers = c.numbers_at.ensures in
    if_ok_weaker c.numbers_at.result
    (λ found h. made_candidates _ _ _ _ _ _ _ _ _ c.requires.rows_are (rw c.in-Made.is at source) c.in_ok-key.key _ (rw c.as_slice.ensures.value at key_is) h)
    (rw c.as_slice-in-Made.ensures.value at numbers)

pub returns : goal.returns
returns c =
    let key_is = c.in_ok-key.ensures in
    let source = c.requires.source_is in
    if_ok_weaker c.numbers_in_order.result
    (λ found h. kept_candidates _ _ _ _ _ _ _ _ _ c.requires.rows_are (rw c.in-Kept.is at source) c.in_ok-key.key _ (rw c.as_slice.ensures.value at key_is) h)
    c.numbers_in_order.ensures
