use Rattle.std.proofs.Common.{arith}
use Rattle.std.specs.Prelude.{◌<ℤ◌}
use Rattle.std.proofs.lemmas.Int.{ints}
use Rattle.ba_general.proofs.ConditionLemmas.{less_first, less_second}
use Rattle.ba_general.proofs.condition.less.Goals as goal

pub returns-in_ok-atom-in-Int-Int : goal.returns-in_ok-atom-in-Int-Int
returns-in_ok-atom-in-Int-Int c =
    let below : c.in-Int-Int.a <ℤ c.in-Int-Int.b = grind (arith, ints) in
    less_first c.args.left.now c.args.right.now c.in-Int-Int.a c.in-Int-Int.b c.in_ok-atom-in-Int-Int.field-0 c.in-Int-Int.is-0 c.in-Int-Int.is-1 below
    c.in_ok-atom-in-Int-Int.ensures

pub returns-in_ok-atom-in-Int-Int-2 : goal.returns-in_ok-atom-in-Int-Int-2
returns-in_ok-atom-in-Int-Int-2 c =
    let below : c.in-Int-Int.b <ℤ c.in-Int-Int.a = grind (arith, ints) in
    less_second c.args.left.now c.args.right.now c.in-Int-Int.a c.in-Int-Int.b c.in_ok-atom-in-Int-Int-2.field-0 c.in-Int-Int.is-0 c.in-Int-Int.is-1 below
    c.in_ok-atom-in-Int-Int-2.ensures
