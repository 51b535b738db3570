use Rattle.std.proofs.Common.{map, take}
use Rattle.ba_general.specs.Conditions.{AddsOnes}
use Rattle.ba_general.proofs.condition.add_pairs.Given as goal

abbrev pub invariant-loop-other : goal.invariant-loop-other
invariant-loop-other l = AddsOnes l.group (map (λ y. (l.operand, y)) (take l.other-index l.others)) l.fn.atoms.items l.atoms.items
