use Rattle.ba_classes.proofs.MergeLemmas.{IsLabelling-new}
use Rattle.ba_classes.proofs.classes.Classes.new.Goals as goal

pub invariant_of-result : goal.invariant_of-result
invariant_of-result c = rw c.in_ok-with_capacity.ensures.items (IsLabelling-new _ c.in_ok-numbers.ensures.in_order)
