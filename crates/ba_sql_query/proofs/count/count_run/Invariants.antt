use Rattle.std.proofs.Common.{◌≡◌, [], take, reverse}
use Rattle.ba_sql_query.specs.Parts.{count_run}
use Rattle.ba_sql_query.proofs.count.count_run.Given as goal

abbrev pub invariant-loop-node : goal.invariant-loop-node
invariant-loop-node l = reverse l.stack.items ≡ count_run (take l.node-index l.condition) []
