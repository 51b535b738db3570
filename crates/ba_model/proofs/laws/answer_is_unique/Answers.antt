use Rattle.ba_model.specs.OrderLaws.{row_total, row_equal}
use Rattle.ba_model.proofs.UniqueLemmas.{same_sorted}
use Rattle.ba_model.proofs.laws.answer_is_unique.Goals as goal

pub returns : goal.returns
returns c q k d xs ys a b =
    same_sorted row_total row_equal xs ys a.rising b.rising (λ r h. b.complete r (a.sound r h)) (λ r h. a.complete r (b.sound r h))
