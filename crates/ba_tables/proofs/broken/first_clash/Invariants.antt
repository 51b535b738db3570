use Rattle.ba_tables.proofs.ClashLemmas.{Clear}
use Rattle.ba_tables.proofs.broken.first_clash.Given as goal

abbrev pub invariant-loop-i : goal.invariant-loop-i
invariant-loop-i l = Clear l.key l.rows l.i l.seen
