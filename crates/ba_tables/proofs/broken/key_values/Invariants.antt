use Rattle.ba_tables.proofs.IndexLemmas.{Gathered}
use Rattle.ba_tables.proofs.broken.key_values.Given as goal

abbrev pub invariant-loop-i : goal.invariant-loop-i
invariant-loop-i l = Gathered l.row l.columns l.i l.values
