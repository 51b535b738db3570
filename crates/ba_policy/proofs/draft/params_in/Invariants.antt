use Rattle.ba_policy.proofs.LoopLemmas.{Declaring}
use Rattle.ba_policy.proofs.draft.params_in.Given as goal

abbrev pub invariant-loop-statement : goal.invariant-loop-statement
invariant-loop-statement l = Declaring l.found l.statements l.statement-index
