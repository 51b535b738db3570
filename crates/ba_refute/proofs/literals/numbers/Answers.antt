use Rattle.std.proofs.Common.{◌∙◌, ap, sym}
use Rattle.std.proofs.lemmas.List.{take_all}
use Rattle.std.proofs.lemmas.List.Folds.{flat_map-map}
use Rattle.std.specs.List.{flat_map}
use Rattle.ba_refute.specs.Images.{number_of_value}
use Rattle.ba_refute.proofs.literals.numbers.Goals as goal

pub returns-clause-value : goal.returns-clause-value
returns-clause-value c =
    c.loop-value.invariant.value ∙ ap (flat_map (λ v. number_of_value v.now)) (take_all c.loop-value.value-index c.args.values.now c.loop-value-test.false) ∙
    sym (flat_map-map number_of_value (λ v. v.now) c.args.values.now)
