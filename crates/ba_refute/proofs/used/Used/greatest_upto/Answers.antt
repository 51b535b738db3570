use Rattle.std.proofs.Common.{◌≡◌, ℤ, pos, ◌+ℤ◌, refl, ap, ◌∙◌, arith, rules}
use Rattle.std.proofs.lemmas.Int.{ints, to_z-of_z}
use Rattle.std.specs.Int.{w128}
use mir.Val.{SFits, to_z, of_z}
use Rattle.ba_classes.proofs.UnusedLemmas.{upto_falls, passed_less}
use Rattle.ba_refute.proofs.used.Used.greatest_upto.Goals as goal

pub loop-number-smaller : goal.loop-number-smaller
loop-number-smaller c =
    let v : ℤ = to_z w128 c.loop-number.number-bits in
    let w : ℤ = to_z w128 (of_z w128 c.in_ok-number.number) in
    let fits : SFits w128 c.in_ok-number.number = search rules in
    let next : w +ℤ pos 1 ≡ v = ap (λ z. z +ℤ pos 1) (to_z-of_z w128 c.in_ok-number.number fits) ∙ c.in_ok-number.ensures in
    upto_falls v w c.args.self.now (omega (arith, ints, next)) (c.loop-number-test.ensures.0 refl)

pub loop-number-preserved : goal.loop-number-preserved
loop-number-preserved c =
    let v : ℤ = to_z w128 c.loop-number.number-bits in
    let w : ℤ = to_z w128 (of_z w128 c.in_ok-number.number) in
    let fits : SFits w128 c.in_ok-number.number = search rules in
    let next : w +ℤ pos 1 ≡ v = ap (λ z. z +ℤ pos 1) (to_z-of_z w128 c.in_ok-number.number fits) ∙ c.in_ok-number.ensures in (
      omega (arith, ints, next, c.loop-number.invariant.0),
      passed_less c.args.self.now (to_z w128 (of_z w128 c.args.high)) v w next (c.loop-number-test.ensures.0 refl) c.loop-number.invariant.1,
    )
