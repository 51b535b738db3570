use Rattle.std.proofs.Common.{subst}
use Rattle.std.proofs.lemmas.List.Filters.{dedup_is}
use Rattle.ba_eval.proofs.AnswerLemmas.{rising_list, same_row}
use Rattle.ba_eval.specs.Search.{IsRisingListOf}
use Rattle.ba_eval.proofs.found.Found.drop_duplicates.Goals as goal

pub returns : goal.returns
returns c =
    subst (λ xs. IsRisingListOf xs c.dedup.new.self.items) c.self.view_is
    (rising_list _ _ _ c.sort_unstable.ensures.permutation c.sort_unstable.ensures.sorted (dedup_is same_row _ _ c.dedup.ensures.filtered))
