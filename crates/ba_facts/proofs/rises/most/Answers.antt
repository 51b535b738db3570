use Rattle.std.proofs.Common.{◌≡◌, ◌∙◌, ◌+ℤ◌, ◌-ℤ◌, ap, List, None, Some, rules, subst, sym}
use Rattle.std.proofs.lemmas.Int.{to_z-of_z}
use Rattle.std.specs.Int.{w128}
use mir.Val.{SFits, of_z, to_z}
use Rattle.ba_classes.specs.Chains.{Shows}
use Rattle.ba_classes.specs.Image.{IsGreatest}
use Rattle.ba_classes.specs.declared.order.Difference.{Difference}
use Rattle.ba_facts.specs.Webs.{RisesBy}
use Rattle.ba_facts.proofs.BoundLemmas.{most_none, most_some}
use Rattle.ba_facts.proofs.rises.most.Goals as goal

pub returns-in-Some : goal.returns-in-Some
returns-in-Some c =
    let gap = c.in-Some.gap in
    let low = c.args.low in
    let high = c.args.high in
    let fits : SFits w128 gap = search rules in
    let whole = most_some c.args.order.now low high gap c.in-Some.ensures.greatest in
    let result_fits : SFits w128 c.beyond.result = search rules in
    let is : to_z w128 (of_z w128 c.beyond.result) ≡ (gap -ℤ low.offset) +ℤ high.offset =
    to_z-of_z w128 c.beyond.result result_fits ∙ (c.beyond.ensures ∙ ap (λ g. (g -ℤ low.offset) +ℤ high.offset) (to_z-of_z w128 gap fits)) in
    subst (λ m. IsGreatest (λ n. RisesBy c.args.order.now low n high) (Some m)) (sym is) whole

pub returns-in-None : goal.returns-in-None
returns-in-None c =
    most_none c.args.order.now c.args.low c.args.high c.in-None.ensures.greatest
