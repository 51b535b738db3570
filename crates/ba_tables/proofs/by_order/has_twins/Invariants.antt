use Rattle.ba_tables.proofs.TwinLemmas.{Apart}
use Rattle.ba_tables.proofs.by_order.has_twins.Given as goal

abbrev pub invariant-loop-i : goal.invariant-loop-i
invariant-loop-i l = Apart l.rows l.order.columns l.numbers l.i
