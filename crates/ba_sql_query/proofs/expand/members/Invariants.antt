use Rattle.std.proofs.Common.{◌≡◌, [], take, reverse}
use Rattle.ba_sql_query.specs.Parts.{run}
use Rattle.ba_sql_query.proofs.expand.members.Given as goal

abbrev pub invariant-loop-node : goal.invariant-loop-node
invariant-loop-node l = reverse l.stack.items ≡ run (take l.node-index l.condition) []
