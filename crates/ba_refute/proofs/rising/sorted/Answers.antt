use Rattle.std.proofs.Common.{◌∙◌, subst}
use Rattle.std.proofs.lemmas.List.Filters.{dedup_is}
use Rattle.ba_eval.proofs.AnswerLemmas.{rising_list, same_row}
use Rattle.ba_eval.specs.Search.{IsRisingListOf}
use Rattle.ba_refute.proofs.rising.sorted.Goals as goal

pub returns : goal.returns
returns c =
    subst (λ rows. IsRisingListOf rows c.from_vec.result) (c.into_vec-copy.ensures ∙ c.in_ok-copy.ensures)
    (rising_list _ _ _ c.sort_unstable.ensures.permutation c.sort_unstable.ensures.sorted (c.from_vec.ensures ∙ dedup_is same_row _ _ c.dedup.ensures.filtered))
