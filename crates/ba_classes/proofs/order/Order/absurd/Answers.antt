use Rattle.std.proofs.Common.{◌↔◌, List, IsTrue, subst}
use Rattle.ba_classes.specs.Chains.{IsAbsurd}
use Rattle.ba_classes.specs.Tied.{value_of}
use Rattle.ba_classes.specs.declared.order.Difference.{Difference}
use Rattle.ba_classes.proofs.OrderLemmas.{flag_based}
use Rattle.ba_classes.proofs.order.Order.absurd.Goals as goal

pub returns : goal.returns
returns c =
    let i = c.self.inside in
    subst (λ (fs : List Difference). IsTrue i.is_absurd ↔ IsAbsurd fs) c.self.view_is
    (flag_based i.facts.items (value_of i.tied.values) i.grid.places i.grid.rows.items i.is_absurd c.self.invariant)
