use Rattle.ba_policy.proofs.EndLemmas.{EndAt}
use Rattle.ba_policy.proofs.statement.up_to_end.Given as goal

abbrev pub invariant-loop-at : goal.invariant-loop-at
invariant-loop-at l = EndAt l.words l.at
