use Rattle.ba_sql_ddl.proofs.BracketLemmas.{CloseAt}
use Rattle.ba_sql_ddl.proofs.brackets.close_of.Given as goal

abbrev pub invariant-loop-at : goal.invariant-loop-at
invariant-loop-at l = CloseAt l.words l.depth l.at
