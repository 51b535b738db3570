use Rattle.ba_classes.proofs.BestLemmas.{reaches_nothing}
use Rattle.ba_classes.proofs.order.Order.gap.Goals as goal

pub returns-in_default-clause-greatest : goal.returns-in_default-clause-greatest
returns-in_default-clause-greatest c = λ k s. reaches_nothing c.best.result c.in_default.not-Sum (λ e. c.requires (c.best.ensures.unbounded e)) k ((c.best.ensures.reaches k).1 s)
