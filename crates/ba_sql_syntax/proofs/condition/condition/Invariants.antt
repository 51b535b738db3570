use Rattle.std.proofs.Common.{length}
use Rattle.ba_sql_syntax.specs.Progress.{progress}
use Rattle.ba_sql_syntax.specs.Reader.{condition_goes, condition_step, run, start}
use Rattle.ba_sql_syntax.proofs.RunLemmas.{At}
use Rattle.ba_sql_syntax.proofs.condition.condition.Given as goal

abbrev pub invariant-loop : goal.invariant-loop
invariant-loop l =
    At condition_goes condition_step l.words l.counter (progress l.progress l.rest) (run condition_goes condition_step (length l.words) (start l.words))
