use Rattle.std.proofs.Common.{sym, subst}
use Rattle.ba_index.specs.Orders.{AreNumbers}
use Rattle.ba_index.proofs.NumberLemmas.{no_numbers, one_more}
use Rattle.ba_index.proofs.order.numbers_of.Goals as goal

pub loop-number-init : goal.loop-number-init
loop-number-init c = subst (AreNumbers 0) (sym c.new-numbers.ensures.items) no_numbers

pub loop-number-preserved : goal.loop-number-preserved
loop-number-preserved c = subst (AreNumbers _) (sym c.in_ok-push.ensures.items) (one_more _ _ c.loop-number.invariant)
