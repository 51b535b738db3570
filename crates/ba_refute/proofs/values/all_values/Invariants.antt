use Rattle.ba_refute.proofs.ValueLemmas.{AreValuesTo}
use Rattle.ba_refute.proofs.values.all_values.Given as goal

abbrev pub invariant-loop-n : goal.invariant-loop-n
invariant-loop-n l = AreValuesTo l.known l.marks l.nodes l.numbers l.n l.values.items
