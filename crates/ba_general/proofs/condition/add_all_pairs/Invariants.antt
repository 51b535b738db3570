use Rattle.ba_general.specs.Conditions.{AddsOnes}
use Rattle.ba_general.proofs.ConditionLemmas.{pairs_to}
use Rattle.ba_general.proofs.condition.add_all_pairs.Given as goal

-- the pairs of the operands so far
abbrev pub invariant-loop-n : goal.invariant-loop-n
invariant-loop-n l = AddsOnes l.group (pairs_to l.n l.operands) l.fn.atoms.items l.atoms.items
