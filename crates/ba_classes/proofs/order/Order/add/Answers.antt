use Rattle.std.proofs.Common.{◌≡◌, ℤ, ◌^◌, ◌∷◌, ◌++◌, [], List, ap, ◌∙◌, subst, sym}
use Rattle.std.specs.Int.{w128}
use Rattle.std.proofs.lemmas.Int.{to_z-of_z}
use mir.Val.{to_z, of_z}
use Rattle.ba_classes.specs.Chains.{Shows}
use Rattle.ba_classes.specs.Closure.{IsInRange}
use Rattle.ba_classes.specs.Tied.{value_of}
use Rattle.ba_classes.specs.declared.order.Difference.{Difference}
use Rattle.ba_classes.proofs.OrderLemmas.{IsOrder-shown}
use Rattle.ba_classes.proofs.order.Order.add.Goals as goal

pub invariant_of-self-2 : goal.invariant_of-self-2
invariant_of-self-2 c =
    let i = c.self.inside in
    let fact : Difference = record { low = c.args.low; gap = c.args.gap; high = c.args.high } in
    let range : IsInRange (2 ^ 65) fact = record { low = c.ranges.low.fits; high = c.ranges.high.fits; above = c.requires.above; below = c.requires.below } in
    let gap_is : to_z w128 (of_z w128 c.args.gap) ≡ c.args.gap = to_z-of_z w128 c.args.gap c.ranges.gap in
    let seen : Shows c.args.self.now c.args.low c.args.gap c.args.high = subst (λ g. Shows c.args.self.now c.args.low g c.args.high) gap_is (c.shows.ensures.0 c.if-not-shows.false) in
    let already : Shows i.facts.items c.args.low c.args.gap c.args.high = subst (λ (fs : List Difference). Shows fs c.args.low c.args.gap c.args.high) (sym c.self.view_is) seen in
    let with_gap : ℤ → List Difference = λ g. i.facts.items ++ record { low = c.args.low; gap = g; high = c.args.high } ∷ [] in
    let pushed : c.push.new.self.items ≡ with_gap c.args.gap = c.in_ok-push.ensures.items ∙ ap with_gap gap_is in
    rw pushed (IsOrder-shown i.facts.items (value_of i.tied.values) i.grid.places i.grid.rows.items i.is_absurd c.self.invariant i.tied.small fact range already)
