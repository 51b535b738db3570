use Rattle.ba_eval.proofs.KeptLemmas.{IsFrontOf}
use Rattle.ba_eval.proofs.kept.front_of.Given as goal

-- a tie for each of the columns so far
abbrev pub invariant-loop-column : goal.invariant-loop-column
invariant-loop-column l = IsFrontOf l.ties l.columns l.column-index l.front.items
