use Rattle.ba_tables.proofs.MissingLemmas.{AllBefore}
use Rattle.ba_tables.proofs.rules.first_from.Given as goal

abbrev pub invariant-loop-at : goal.invariant-loop-at
invariant-loop-at l = AllBefore l.rows l.from l.row l.at
