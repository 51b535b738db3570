use Rattle.std.proofs.Common.{◌≡◌, take}
use Rattle.std.specs.List.{All, flat_map}
use Rattle.ba_refute.specs.Counterexamples.{IsNumber}
use Rattle.ba_refute.specs.Images.{number_of_value}
use Rattle.ba_refute.proofs.literals.numbers.Given as goal

abbrev pub invariant-loop-value : goal.invariant-loop-value
invariant-loop-value l = record {
  value : l.numbers.items ≡ flat_map (λ v. number_of_value v.now) (take l.value-index l.values);
  stored : All IsNumber l.numbers.items;
}
