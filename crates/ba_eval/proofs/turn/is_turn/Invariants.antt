use Rattle.ba_eval.proofs.TurnLemmas.{LeadsBack}
use Rattle.ba_eval.proofs.turn.is_turn.Given as goal

abbrev pub invariant-loop-place : goal.invariant-loop-place
invariant-loop-place l = LeadsBack l.to l.back l.place
