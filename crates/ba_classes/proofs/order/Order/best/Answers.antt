use Rattle.std.proofs.Common.{◌≡◌, ℤ, pos, ◌+ℤ◌, ◌↔◌, List, map, eqb, sym, subst, ap, ◌∙◌, ◌^◌, arith, rules}
use Rattle.std.specs.Int.{w128}
use Rattle.std.proofs.lemmas.Int.{ints, to_z-of_z}
use mir.Val.{SFits}
use Rattle.ba_classes.specs.Best.{IsWithin, Reaches, or_nothing}
use Rattle.ba_classes.specs.Chains.{Shows}
use Rattle.ba_classes.specs.Closure.{IsInRange, reach}
use Rattle.ba_classes.specs.Grid.{between}
use Rattle.ba_classes.specs.Tied.{based, value_of}
use Rattle.ba_classes.specs.declared.order.Difference.{Difference}
use Rattle.ba_classes.proofs.BoundLemmas.{best_within, reach_within, unbounded_is_absurd}
use Rattle.ba_classes.proofs.OrderLemmas.{best_is, fact_in_range}
use Rattle.ba_classes.proofs.order.Order.best.Goals as goal

pub less-requires-clause-within : goal.less-requires-clause-within
less-requires-clause-within c =
    let i = c.self.inside in
    let value = value_of i.tied.values in
    let fact = c.based-based.result in
    let cell = between i.grid.places i.grid.rows.items in
    let order = c.self.invariant in
    let given : Difference = record { low = c.args.low; gap = pos 0; high = c.args.high } in
    let range : IsInRange (2 ^ 65) given = record { low = c.ranges.low.fits; high = c.ranges.high.fits; above = omega (arith, ints); below = omega (arith, ints) } in
    let fact_range : IsInRange (2 ^ 66) fact = fact_in_range value i.tied.small given range fact c.based-based.ensures.fact in
    let reached : c.or_nothing.result ≡ reach cell fact.low fact.high = c.or_nothing.ensures ∙ ap (or_nothing (eqb fact.low fact.high)) c.between.ensures in
    subst (IsWithin (2 ^ 98)) (sym reached) (reach_within (map (based value) i.facts.items) order.closure.in_range cell order.closure.exact fact.low fact.high fact_range.high)

pub returns-clause-reaches : goal.returns-clause-reaches
returns-clause-reaches c =
    let i = c.self.inside in
    let value = value_of i.tied.values in
    let fact = c.based-based.result in
    let cell = between i.grid.places i.grid.rows.items in
    let order = c.self.invariant in
    let reached : c.or_nothing.result ≡ reach cell fact.low fact.high = c.or_nothing.ensures ∙ ap (or_nothing (eqb fact.low fact.high)) c.between.ensures in
    let fits : SFits w128 fact.gap = search rules in
    let less : (k : ℤ) → Reaches c.less.result k ↔ Reaches c.or_nothing.result (fact.gap +ℤ k) = λ k. subst (λ g. Reaches c.less.result k ↔ Reaches c.or_nothing.result (g +ℤ k)) (to_z-of_z w128 fact.gap fits) (c.less.ensures k) in
    let is : (k : ℤ) → Reaches c.less.result k ↔ Shows i.facts.items c.args.low k c.args.high = best_is i.facts.items value i.grid.places i.grid.rows.items i.is_absurd order c.args.low c.args.high fact c.based-based.ensures.fact c.or_nothing.result c.less.result reached less in
    λ k. subst (λ (fs : List Difference). Reaches c.less.result k ↔ Shows fs c.args.low k c.args.high) c.self.view_is (is k)

pub returns-clause-unbounded : goal.returns-clause-unbounded
returns-clause-unbounded c = λ e.
    let i = c.self.inside in
    let value = value_of i.tied.values in
    let fact = c.based-based.result in
    let cell = between i.grid.places i.grid.rows.items in
    let order = c.self.invariant in
    let reached : c.or_nothing.result ≡ reach cell fact.low fact.high = c.or_nothing.ensures ∙ ap (or_nothing (eqb fact.low fact.high)) c.between.ensures in
    let fits : SFits w128 fact.gap = search rules in
    let less : (k : ℤ) → Reaches c.less.result k ↔ Reaches c.or_nothing.result (fact.gap +ℤ k) = λ k. subst (λ g. Reaches c.less.result k ↔ Reaches c.or_nothing.result (g +ℤ k)) (to_z-of_z w128 fact.gap fits) (c.less.ensures k) in
    let is : (k : ℤ) → Reaches c.less.result k ↔ Shows i.facts.items c.args.low k c.args.high = best_is i.facts.items value i.grid.places i.grid.rows.items i.is_absurd order c.args.low c.args.high fact c.based-based.ensures.fact c.or_nothing.result c.less.result reached less in
    rw (← c.self.view_is)
    (unbounded_is_absurd (2 ^ 65) i.facts.items order.in_range c.less.result c.args.low c.args.high c.ranges.high.fits (λ k. (is k).0) (λ k. (is k).1) e)

pub returns-clause-within : goal.returns-clause-within
returns-clause-within c =
    let i = c.self.inside in
    let value = value_of i.tied.values in
    let fact = c.based-based.result in
    let cell = between i.grid.places i.grid.rows.items in
    let order = c.self.invariant in
    let reached : c.or_nothing.result ≡ reach cell fact.low fact.high = c.or_nothing.ensures ∙ ap (or_nothing (eqb fact.low fact.high)) c.between.ensures in
    let fits : SFits w128 fact.gap = search rules in
    let less : (k : ℤ) → Reaches c.less.result k ↔ Reaches c.or_nothing.result (fact.gap +ℤ k) = λ k. subst (λ g. Reaches c.less.result k ↔ Reaches c.or_nothing.result (g +ℤ k)) (to_z-of_z w128 fact.gap fits) (c.less.ensures k) in
    let is : (k : ℤ) → Reaches c.less.result k ↔ Shows i.facts.items c.args.low k c.args.high = best_is i.facts.items value i.grid.places i.grid.rows.items i.is_absurd order c.args.low c.args.high fact c.based-based.ensures.fact c.or_nothing.result c.less.result reached less in
    best_within (2 ^ 65) i.facts.items order.in_range c.less.result c.args.low c.args.high c.ranges.high.fits (λ k. (is k).0) (λ k. (is k).1)
