use Rattle.std.proofs.Common.{◌≡◌, ℕ, ◌+◌, ℤ, pos, ◌+ℤ◌, ◌∷◌, ◌++◌, [], List, take, get_or, arith, rules, subst}
use Rattle.std.proofs.lemmas.Int.{ints, to_z-of_z}
use Rattle.std.proofs.lemmas.List.{take_more, take_all}
use Rattle.std.specs.Int.{w128}
use mir.Val.{SFits, to_z, of_z}
use Rattle.ba_classes.specs.Chains.{Shows}
use Rattle.ba_classes.specs.Image.{IsGreatest, IsLeast, IsAtMost}
use Rattle.ba_classes.proofs.ImageLemmas.{most_same, most_more}
use Rattle.ba_classes.proofs.order.Order.upper_bound.Goals as goal
use Rattle.ba_classes.proofs.order.Order.upper_bound.Goals.{in-Some+in_ok-difference, in_default}

pub loop-other-preserved : goal.loop-other-preserved
loop-other-preserved c =
    let i = c.loop-other.other-index in
    let valued = c.args.valued.now in
    let item : ℕ × ℤ = get_or valued i (0, pos 0) in
    let more : take (i + 1) valued ≡ take i valued ++ item ∷ [] = take_more valued i (0, pos 0) c.loop-other-test.true in
    elim c.match-gap.branch [
      | in-Some+in_ok-difference w ↦
          (let best = subst (IsGreatest (λ k. Shows c.args.self.now c.args.node k item.0)) w.in-Some.is c.gap.ensures.greatest in
          let b : ℤ = to_z w128 (of_z w128 w.in_ok-difference.field-0) in
          let value_fits : SFits w128 item.1 = search rules in
          let gap_fits : SFits w128 w.in-Some.gap = search rules in
          let sum_fits : SFits w128 w.in_ok-difference.field-0 = search rules in
          let b-is : b +ℤ w.in-Some.gap ≡ item.1 = omega (arith, ints, w.in_ok-difference.ensures, to_z-of_z w128 item.1 value_fits, to_z-of_z w128 w.in-Some.gap gap_fits, to_z-of_z w128 w.in_ok-difference.field-0 sum_fits) in
          rw (w.bound-is, w.lesser-bound.ensures, more)
          (most_more c.args.self.now (take i valued) c.args.node item.0 item.1 c.loop-other.bound w.in-Some.gap b c.loop-other.invariant best.0 best.1 b-is))
      | in_default w ↦
          (let none = subst (IsGreatest (λ k. Shows c.args.self.now c.args.node k item.0)) w.in_default.is c.gap.ensures.greatest in
          rw (w.bound-is, more)
          (most_same c.args.self.now (take i valued) c.args.node item.0 item.1 c.loop-other.bound c.loop-other.invariant none))
    ]

pub returns : goal.returns
returns c =
    let whole : take c.loop-other.other-index c.args.valued.now ≡ c.args.valued.now = take_all c.loop-other.other-index c.args.valued.now c.loop-other-test.false in
    subst (λ (vs : List (ℕ × ℤ)). IsLeast (IsAtMost c.args.self.now vs c.args.node) c.loop-other.bound) whole c.loop-other.invariant
