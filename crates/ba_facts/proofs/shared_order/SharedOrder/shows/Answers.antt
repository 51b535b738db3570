use Rattle.std.proofs.Common.{◌≡◌, ◌↔◌, ◌≤ℤ◌, ℤ, pos, List, [], IsTrue, rules, subst}
use Rattle.std.proofs.lemmas.Int.{to_z-of_z}
use Rattle.std.specs.Int.{w128}
use mir.Val.{SFits}
use Rattle.ba_classes.specs.Chains.{Shows}
use Rattle.ba_classes.specs.declared.order.Difference.{Difference}
use Rattle.ba_facts.proofs.EmptyOrder.{shown_exact}
use Rattle.ba_facts.proofs.shared_order.SharedOrder.shows.Goals as goal

pub returns-in-None : goal.returns-in-None
returns-in-None c =
    let low = c.args.low in
    let gap = c.args.gap in
    let high = c.args.high in
    let is = subst (λ (k : ℤ). IsTrue c.is_itself.result ↔ ((low ≡ high) × (k ≤ℤ pos 0))) (to_z-of_z w128 gap (let fits : SFits w128 gap = search rules in fits)) c.is_itself.ensures in
    subst (λ (facts : List Difference). IsTrue c.is_itself.result ↔ Shows facts low gap high) (let e : [] ≡ c.args.self.now = search rules in e) (shown_exact c.is_itself.result low high gap is)
