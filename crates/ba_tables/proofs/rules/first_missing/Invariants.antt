use Rattle.ba_tables.proofs.MissingLemmas.{Walked}
use Rattle.ba_tables.proofs.rules.first_missing.Given as goal

abbrev pub invariant-loop-i : goal.invariant-loop-i
invariant-loop-i l = Walked l.left l.right l.i l.at
