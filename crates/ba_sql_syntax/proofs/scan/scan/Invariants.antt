use Rattle.std.proofs.Common.{◌≡◌, length}
use Rattle.ba_sql_syntax.specs.Scan.{nothing, scan}
use Rattle.ba_sql_syntax.proofs.scan.scan.Given as goal

abbrev pub invariant-loop-rest : goal.invariant-loop-rest
invariant-loop-rest l = scan l.behind l.rest ≡ scan nothing l.words

abbrev pub decreases-loop-rest : goal.decreases-loop-rest
decreases-loop-rest l = length l.rest
