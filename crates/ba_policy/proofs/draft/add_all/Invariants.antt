use Rattle.ba_policy.proofs.LoopLemmas.{Adding}
use Rattle.ba_policy.proofs.draft.add_all.Given as goal

abbrev pub invariant-loop-statement : goal.invariant-loop-statement
invariant-loop-statement l = Adding l.schema l.all l.draft l.statements l.statement-index
