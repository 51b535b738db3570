use Rattle.std.proofs.Common.{◌≡◌, ℤ, ℕ, Some, cond, nat_eq, rules, subst}
use Rattle.std.specs.Int.{w128}
use Rattle.std.proofs.lemmas.Int.{to_z-of_z}
use mir.Val.{SFits, to_z, of_z}
use Rattle.ba_classes.specs.Tied.{value_of}
use Rattle.ba_classes.proofs.OrderLemmas.{IsOrder-same, IsOrder-tied}
use Rattle.ba_classes.proofs.order.Order.settle_last.Goals as goal

pub invariant_of-self : goal.invariant_of-self
invariant_of-self c =
    let i = c.self.inside in
    IsOrder-same i.facts.items i.tied.values c.tie.new.self.values i.grid.places i.grid.rows.items i.is_absurd (c.tie.ensures.same c.if-not-tie.true) c.self.invariant

pub invariant_of-self-2 : goal.invariant_of-self-2
invariant_of-self-2 c =
    let i = c.self.inside in
    let node : ℕ = c.in-Some.node in
    let value : ℤ = c.in-Some-known.value in
    let fits : SFits w128 value = search rules in
    let same : to_z w128 (of_z w128 value) ≡ value = to_z-of_z w128 value fits in
    let updated : (n : ℕ) → value_of c.tie.new.self.values n ≡ cond (nat_eq node n) (Some value) (value_of i.tied.values n) =
    λ n. subst (λ v. value_of c.tie.new.self.values n ≡ cond (nat_eq node n) (Some v) (value_of i.tied.values n)) same (c.tie.ensures.tied c.if-not-tie.false n) in
    let k = c.in-Some-known.ensures in
    let g = c.give_back.ensures in
    IsOrder-tied i.facts.items (value_of i.tied.values) i.grid.places i.grid.rows.items i.is_absurd c.self.invariant (value_of c.tie.new.self.values) c.tie.new.self.small node value updated c.if-node-eq0.false k.at_least k.at_most c.give_back.new.self.places c.give_back.new.self.rows.items c.in-Some.ensures g.len g.gone g.kept g.same
