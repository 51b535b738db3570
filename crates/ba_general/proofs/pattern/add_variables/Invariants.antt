use Rattle.std.proofs.Common.{◌≡◌, ◌++◌, take}
use Rattle.ba_general.specs.Conditions.{variables}
use Rattle.ba_general.proofs.pattern.add_variables.Given as goal

abbrev pub invariant-loop-n : goal.invariant-loop-n
invariant-loop-n l = l.all ≡ l.fn.all ++ take l.n (variables l.values)
