use Rattle.std.proofs.Common.{◌≡◌, ◌∙◌, ◌+◌, ℤ, ◌+ℤ◌, ◌∷◌, ◌++◌, [], List, take, arith, rules, ap, subst, sym}
use Rattle.std.proofs.lemmas.Int.{ints, to_z-of_z}
use Rattle.std.proofs.lemmas.List.{take_more, take_all}
use Rattle.std.specs.Int.{w128}
use mir.Val.{SFits, to_z, of_z}
use Rattle.ba_classes.specs.Image.{IsGreatest, IsLeast}
use Rattle.ba_facts.specs.Known.{ShownGap}
use Rattle.ba_facts.specs.declared.term.Term.{Term}
use Rattle.ba_facts.specs.declared.term.Term.TheVariants.{Unknown}
use Rattle.ba_refute.specs.Images.{IsUpperBound}
use Rattle.ba_refute.proofs.NumberLemmas.{most_same, most_more}
use Rattle.ba_refute.proofs.numbers.upper_bound.Goals as goal
use Rattle.ba_refute.proofs.numbers.upper_bound.Goals.{in-Some+in_ok-difference, in_default}

pub loop-other-preserved : goal.loop-other-preserved
loop-other-preserved c =
    let k = c.args.known.now in
    let i = c.loop-other.other-index in
    let valued = c.args.valued.now in
    let term : Term = Unknown c.args.n in
    let item : Term × ℤ = c.loop-other-item.result in
    let more : take (i + 1) valued ≡ take i valued ++ item ∷ [] =
    take_more valued i item c.loop-other-test.true ∙ ap (λ (p : Term × ℤ). take i valued ++ p ∷ []) (sym c.loop-other-item.is) in
    let found : IsGreatest (λ g. ShownGap k term g item.0) c.bound.result = subst (λ (t : Term). IsGreatest (λ g. ShownGap k term g t) c.bound.result) c.by_ref.ensures c.bound.ensures in
    elim c.match-bound.branch [
      | in-Some+in_ok-difference w ↦
          (let best = subst (IsGreatest (λ g. ShownGap k term g item.0)) w.in-Some.is found in
          let b : ℤ = to_z w128 (of_z w128 w.in_ok-difference.field-0) in
          let value_fits : SFits w128 item.1 = search rules in
          let gap_fits : SFits w128 w.in-Some.gap = search rules in
          let sum_fits : SFits w128 w.in_ok-difference.field-0 = search rules in
          let b-is : b +ℤ w.in-Some.gap ≡ item.1 = omega (arith, ints, w.in_ok-difference.ensures, to_z-of_z w128 item.1 value_fits, to_z-of_z w128 w.in-Some.gap gap_fits, to_z-of_z w128 w.in_ok-difference.field-0 sum_fits) in
          rw (w.bound-is, w.lesser-bound.ensures, more)
          (most_more k (take i valued) term item.0 item.1 c.loop-other.bound w.in-Some.gap b c.loop-other.invariant best.0 best.1 b-is))
      | in_default w ↦
          (let none = subst (IsGreatest (λ g. ShownGap k term g item.0)) w.in_default.is found in
          rw (w.bound-is, more)
          (most_same k (take i valued) term item.0 item.1 c.loop-other.bound c.loop-other.invariant none))
    ]

pub returns : goal.returns
returns c =
    let whole : take c.loop-other.other-index c.args.valued.now ≡ c.args.valued.now = take_all c.loop-other.other-index c.args.valued.now c.loop-other-test.false in
    subst (λ (vs : List (Term × ℤ)). IsLeast (IsUpperBound c.args.known.now vs (Unknown c.args.n)) c.loop-other.bound) whole c.loop-other.invariant
