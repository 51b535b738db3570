use Rattle.std.proofs.Common.{◌≡◌, rules, ap}
use Rattle.std.proofs.lemmas.List.Sorted.{ranks_by, answers_always}
use Rattle.std.specs.Ordering.{is_lt}
use Rattle.ba_model.specs.Order.{row_cmp}
use Rattle.ba_model.specs.OrderLaws.{row_total}
use Rattle.ba_eval.specs.Index.{key_of}
use Rattle.ba_eval.proofs.place.put_in_order.Goals as goal

pub returns : goal.returns
returns c = record {
  moved = c.sort_unstable_by.ensures.permutation;
  sorted = c.sort_unstable_by.ensures.sorted _ (ranks_by row_total key_of)
      (answers_always _ _ _ (λ f a r g k. let e : r ≡ row_cmp (key_of a.0.now) (key_of a.1.0.now) = search rules in ap is_lt e));
}
