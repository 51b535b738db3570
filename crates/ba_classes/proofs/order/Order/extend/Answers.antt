use Rattle.std.proofs.Common.{◌≡◌, ◌^◌, List, map, arith, rules, refl, sym, subst, ap, ◌∙◌}
use Rattle.std.proofs.Common.{ℤ, pos, neg_ℤ, ◌+ℤ◌, ◌-ℤ◌, ◌++◌, ◌∷◌, []}
use Rattle.std.specs.Int.{w128}
use Rattle.std.proofs.lemmas.Int.{ints, to_z-of_z}
use mir.Val.{SFits, to_z, of_z}
use Rattle.ba_classes.specs.Best.{IsWithin}
use Rattle.ba_classes.specs.Closure.{IsInRange, through}
use Rattle.ba_classes.specs.Tied.{based, value_of}
use Rattle.ba_classes.specs.declared.order.Difference.{Difference}
use Rattle.ba_classes.proofs.ClosureLemmas.{comes_within, goes_within}
use Rattle.ba_classes.proofs.OrderLemmas.{IsOrder-placed, IsOrder-step, fact_in_range, through_within}
use Rattle.ba_classes.proofs.order.Order.extend.Goals as goal

pub invariant_of-self : goal.invariant_of-self
invariant_of-self c =
    let i = c.self.inside in
    let e = c.place.ensures in
    let value = value_of i.tied.values in
    let given : Difference = record { low = c.args.low; gap = c.args.gap; high = c.args.high } in
    let range : IsInRange (2 ^ 65) given = record { low = c.ranges.low.fits; high = c.ranges.high.fits; above = c.requires.above; below = c.requires.below } in
    let fact = c.based-based.result in
    let fact_is : fact ≡ based value given = c.based-based.ensures.fact ∙ ap (λ g. based value (record { low = c.args.low; gap = g; high = c.args.high })) (to_z-of_z w128 c.args.gap c.ranges.gap) in
    let fact_range : IsInRange (2 ^ 66) fact = fact_in_range value i.tied.small given range fact fact_is in
    let first = IsOrder-placed i.facts.items value i.grid.places i.grid.rows.items i.is_absurd c.self.invariant c.place.new.self.places c.place.new.self.rows.items fact.low fact_range.low e.kept e.named e.same in
    first

pub invariant_of-self-in_err-to : goal.invariant_of-self-in_err-to
invariant_of-self-in_err-to c =
    let i = c.self.inside in
    let e = c.place.ensures in
    let f = c.place-2.ensures in
    let value = value_of i.tied.values in
    let given : Difference = record { low = c.args.low; gap = c.args.gap; high = c.args.high } in
    let range : IsInRange (2 ^ 65) given = record { low = c.ranges.low.fits; high = c.ranges.high.fits; above = c.requires.above; below = c.requires.below } in
    let fact = c.based-based.result in
    let fact_is : fact ≡ based value given = c.based-based.ensures.fact ∙ ap (λ g. based value (record { low = c.args.low; gap = g; high = c.args.high })) (to_z-of_z w128 c.args.gap c.ranges.gap) in
    let fact_range : IsInRange (2 ^ 66) fact = fact_in_range value i.tied.small given range fact fact_is in
    let first = IsOrder-placed i.facts.items value i.grid.places i.grid.rows.items i.is_absurd c.self.invariant c.place.new.self.places c.place.new.self.rows.items fact.low fact_range.low e.kept e.named e.same in
    let second = IsOrder-placed i.facts.items value c.place.new.self.places c.place.new.self.rows.items i.is_absurd first c.place-2.new.self.places c.place-2.new.self.rows.items fact.high fact_range.high f.kept f.named f.same in
    second

pub invariant_of-self-in_err-onward : goal.invariant_of-self-in_err-onward
invariant_of-self-in_err-onward c =
    let i = c.self.inside in
    let e = c.place.ensures in
    let f = c.place-2.ensures in
    let value = value_of i.tied.values in
    let given : Difference = record { low = c.args.low; gap = c.args.gap; high = c.args.high } in
    let range : IsInRange (2 ^ 65) given = record { low = c.ranges.low.fits; high = c.ranges.high.fits; above = c.requires.above; below = c.requires.below } in
    let fact = c.based-based.result in
    let fact_is : fact ≡ based value given = c.based-based.ensures.fact ∙ ap (λ g. based value (record { low = c.args.low; gap = g; high = c.args.high })) (to_z-of_z w128 c.args.gap c.ranges.gap) in
    let fact_range : IsInRange (2 ^ 66) fact = fact_in_range value i.tied.small given range fact fact_is in
    let first = IsOrder-placed i.facts.items value i.grid.places i.grid.rows.items i.is_absurd c.self.invariant c.place.new.self.places c.place.new.self.rows.items fact.low fact_range.low e.kept e.named e.same in
    let second = IsOrder-placed i.facts.items value c.place.new.self.places c.place.new.self.rows.items i.is_absurd first c.place-2.new.self.places c.place-2.new.self.rows.items fact.high fact_range.high f.kept f.named f.same in
    second

pub invariant_of-self-in_err-rows : goal.invariant_of-self-in_err-rows
invariant_of-self-in_err-rows c =
    let i = c.self.inside in
    let e = c.place.ensures in
    let f = c.place-2.ensures in
    let value = value_of i.tied.values in
    let given : Difference = record { low = c.args.low; gap = c.args.gap; high = c.args.high } in
    let range : IsInRange (2 ^ 65) given = record { low = c.ranges.low.fits; high = c.ranges.high.fits; above = c.requires.above; below = c.requires.below } in
    let fact = c.based-based.result in
    let fact_is : fact ≡ based value given = c.based-based.ensures.fact ∙ ap (λ g. based value (record { low = c.args.low; gap = g; high = c.args.high })) (to_z-of_z w128 c.args.gap c.ranges.gap) in
    let fact_range : IsInRange (2 ^ 66) fact = fact_in_range value i.tied.small given range fact fact_is in
    let first = IsOrder-placed i.facts.items value i.grid.places i.grid.rows.items i.is_absurd c.self.invariant c.place.new.self.places c.place.new.self.rows.items fact.low fact_range.low e.kept e.named e.same in
    let second = IsOrder-placed i.facts.items value c.place.new.self.places c.place.new.self.rows.items i.is_absurd first c.place-2.new.self.places c.place-2.new.self.rows.items fact.high fact_range.high f.kept f.named f.same in
    second

pub invariant_of-self-in_err-push : goal.invariant_of-self-in_err-push
invariant_of-self-in_err-push c =
    let i = c.self.inside in
    let e = c.place.ensures in
    let f = c.place-2.ensures in
    let value = value_of i.tied.values in
    let given : Difference = record { low = c.args.low; gap = c.args.gap; high = c.args.high } in
    let range : IsInRange (2 ^ 65) given = record { low = c.ranges.low.fits; high = c.ranges.high.fits; above = c.requires.above; below = c.requires.below } in
    let fact = c.based-based.result in
    let fact_is : fact ≡ based value given = c.based-based.ensures.fact ∙ ap (λ g. based value (record { low = c.args.low; gap = g; high = c.args.high })) (to_z-of_z w128 c.args.gap c.ranges.gap) in
    let fact_range : IsInRange (2 ^ 66) fact = fact_in_range value i.tied.small given range fact fact_is in
    let first = IsOrder-placed i.facts.items value i.grid.places i.grid.rows.items i.is_absurd c.self.invariant c.place.new.self.places c.place.new.self.rows.items fact.low fact_range.low e.kept e.named e.same in
    let second = IsOrder-placed i.facts.items value c.place.new.self.places c.place.new.self.rows.items i.is_absurd first c.place-2.new.self.places c.place-2.new.self.rows.items fact.high fact_range.high f.kept f.named f.same in
    rw c.in_err-push.ensures.items second

-- the closure with both nodes named, and the fact
pub raised-requires-clause-low : goal.raised-requires-clause-low
raised-requires-clause-low c =
    let f = c.place-2.ensures in
    let fact = c.based-based.result in
    let low_placed = f.kept _ _ c.in_ok-from.ensures.place in
    let grid = c.place-2.new.self.in_order in
    let from = c.in_ok-from.from in
    grid.below fact.low from low_placed

pub raised-requires-clause-comes : goal.raised-requires-clause-comes
raised-requires-clause-comes c =
    let i = c.self.inside in
    let e = c.place.ensures in
    let f = c.place-2.ensures in
    let value = value_of i.tied.values in
    let given : Difference = record { low = c.args.low; gap = c.args.gap; high = c.args.high } in
    let range : IsInRange (2 ^ 65) given = record { low = c.ranges.low.fits; high = c.ranges.high.fits; above = c.requires.above; below = c.requires.below } in
    let fact = c.based-based.result in
    let fact_is : fact ≡ based value given = c.based-based.ensures.fact ∙ ap (λ g. based value (record { low = c.args.low; gap = g; high = c.args.high })) (to_z-of_z w128 c.args.gap c.ranges.gap) in
    let fact_range : IsInRange (2 ^ 66) fact = fact_in_range value i.tied.small given range fact fact_is in
    let first = IsOrder-placed i.facts.items value i.grid.places i.grid.rows.items i.is_absurd c.self.invariant c.place.new.self.places c.place.new.self.rows.items fact.low fact_range.low e.kept e.named e.same in
    let second = IsOrder-placed i.facts.items value c.place.new.self.places c.place.new.self.rows.items i.is_absurd first c.place-2.new.self.places c.place-2.new.self.rows.items fact.high fact_range.high f.kept f.named f.same in
    let low_placed = f.kept _ _ c.in_ok-from.ensures.place in
    let high_placed = c.in_ok-to.ensures.place in
    let plain = map (based value) i.facts.items in
    let places = c.place-2.new.self.places in
    let rows = c.place-2.new.self.rows.items in
    let grid = c.place-2.new.self.in_order in
    let from = c.in_ok-from.from in
    let to = c.in_ok-to.to in
    comes_within plain places rows i.is_absurd grid second.closure fact fact_range from to low_placed high_placed

pub raised-requires-clause-goes : goal.raised-requires-clause-goes
raised-requires-clause-goes c =
    let i = c.self.inside in
    let e = c.place.ensures in
    let f = c.place-2.ensures in
    let value = value_of i.tied.values in
    let given : Difference = record { low = c.args.low; gap = c.args.gap; high = c.args.high } in
    let range : IsInRange (2 ^ 65) given = record { low = c.ranges.low.fits; high = c.ranges.high.fits; above = c.requires.above; below = c.requires.below } in
    let fact = c.based-based.result in
    let fact_is : fact ≡ based value given = c.based-based.ensures.fact ∙ ap (λ g. based value (record { low = c.args.low; gap = g; high = c.args.high })) (to_z-of_z w128 c.args.gap c.ranges.gap) in
    let fact_range : IsInRange (2 ^ 66) fact = fact_in_range value i.tied.small given range fact fact_is in
    let first = IsOrder-placed i.facts.items value i.grid.places i.grid.rows.items i.is_absurd c.self.invariant c.place.new.self.places c.place.new.self.rows.items fact.low fact_range.low e.kept e.named e.same in
    let second = IsOrder-placed i.facts.items value c.place.new.self.places c.place.new.self.rows.items i.is_absurd first c.place-2.new.self.places c.place-2.new.self.rows.items fact.high fact_range.high f.kept f.named f.same in
    let low_placed = f.kept _ _ c.in_ok-from.ensures.place in
    let high_placed = c.in_ok-to.ensures.place in
    let plain = map (based value) i.facts.items in
    let places = c.place-2.new.self.places in
    let rows = c.place-2.new.self.rows.items in
    let grid = c.place-2.new.self.in_order in
    let from = c.in_ok-from.from in
    let to = c.in_ok-to.to in
    goes_within plain places rows i.is_absurd grid second.closure fact fact_range from to low_placed high_placed c.in_ok-onward.onward c.in_ok-onward.ensures.below c.in_ok-onward.ensures.past

pub raised-requires-clause-by : goal.raised-requires-clause-by
raised-requires-clause-by c =
    let fact = c.based-based.result in
    let gap_fits : SFits w128 fact.gap = search rules in
    let gap_is : to_z w128 (of_z w128 fact.gap) ≡ fact.gap = to_z-of_z w128 fact.gap gap_fits in
    subst (IsWithin (2 ^ 66)) (sym (c.through.ensures ∙ ap (through c.reaches-gains.result) gap_is)) (through_within c.reaches-gains.result fact.gap c.based-based.ensures.above c.based-based.ensures.below)

pub invariant_of-self-2 : goal.invariant_of-self-2
invariant_of-self-2 c =
    let i = c.self.inside in
    let e = c.place.ensures in
    let f = c.place-2.ensures in
    let value = value_of i.tied.values in
    let given : Difference = record { low = c.args.low; gap = c.args.gap; high = c.args.high } in
    let range : IsInRange (2 ^ 65) given = record { low = c.ranges.low.fits; high = c.ranges.high.fits; above = c.requires.above; below = c.requires.below } in
    let fact = c.based-based.result in
    let fact_is : fact ≡ based value given = c.based-based.ensures.fact ∙ ap (λ g. based value (record { low = c.args.low; gap = g; high = c.args.high })) (to_z-of_z w128 c.args.gap c.ranges.gap) in
    let fact_range : IsInRange (2 ^ 66) fact = fact_in_range value i.tied.small given range fact fact_is in
    let first = IsOrder-placed i.facts.items value i.grid.places i.grid.rows.items i.is_absurd c.self.invariant c.place.new.self.places c.place.new.self.rows.items fact.low fact_range.low e.kept e.named e.same in
    let second = IsOrder-placed i.facts.items value c.place.new.self.places c.place.new.self.rows.items i.is_absurd first c.place-2.new.self.places c.place-2.new.self.rows.items fact.high fact_range.high f.kept f.named f.same in
    let low_placed = f.kept _ _ c.in_ok-from.ensures.place in
    let high_placed = c.in_ok-to.ensures.place in
    let places = c.place-2.new.self.places in
    let rows = c.place-2.new.self.rows.items in
    let grid = c.place-2.new.self.in_order in
    let from = c.in_ok-from.from in
    let to = c.in_ok-to.to in
    let given_is : to_z w128 (of_z w128 c.args.gap) ≡ c.args.gap = to_z-of_z w128 c.args.gap c.ranges.gap in
    let gap_fits : SFits w128 fact.gap = search rules in
    let gap_is : to_z w128 (of_z w128 fact.gap) ≡ fact.gap = to_z-of_z w128 fact.gap gap_fits in
    let least_is : to_z w128 (of_z w128 (pos 1 -ℤ to_z w128 (of_z w128 fact.gap))) ≡ pos 1 +ℤ neg_ℤ fact.gap = omega (arith, ints, gap_is, c.based-based.ensures.above, c.based-based.ensures.below) in
    let with_gap : ℤ → List Difference = λ g. i.facts.items ++ record { low = c.args.low; gap = g; high = c.args.high } ∷ [] in
    let pushed : c.push.new.self.items ≡ with_gap c.args.gap = c.in_ok-push.ensures.items ∙ ap with_gap given_is in
    rw (pushed, c.set_rows.ensures.places, c.set_rows.ensures.rows)
    (IsOrder-step i.facts.items value places rows i.is_absurd second i.tied.small grid given range fact fact_is from to low_placed high_placed c.reaches-gains.result c.at.result c.through.result _ c.in_ok-onward.onward c.in_ok-onward.ensures.below c.reaches-gains.ensures c.at.ensures least_is (c.through.ensures ∙ ap (through c.reaches-gains.result) gap_is) places c.in_ok-rows.rows.items (λ x. refl) refl c.in_ok-rows.ensures.cells)
