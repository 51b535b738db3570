use Rattle.std.proofs.Common.{◌∙◌}
use Rattle.std.proofs.lemmas.List.Filters.{dedup_is}
use Rattle.ba_answer_tests.proofs.PlainAnswerLemmas.{rising_list, same_row}
use Rattle.ba_answer_tests.proofs.tests.plain.in_order.Goals as goal

pub returns : goal.returns
returns c =
    rising_list _ _ _ c.sort_unstable.ensures.permutation c.sort_unstable.ensures.sorted (c.from_vec.ensures ∙ dedup_is same_row _ _ c.dedup.ensures.filtered)
