use Rattle.std.proofs.Common.{length}
use Rattle.ba_sql_ddl.specs.Scan.{scan}
use Rattle.ba_sql_ddl.proofs.ScanLemmas.{ScanAt}
use Rattle.ba_sql_ddl.proofs.scan.first_unsupported.Given as goal

-- none of the words so far
abbrev pub invariant-loop : goal.invariant-loop
invariant-loop l = ScanAt (length l.words) l.counter l.rest (scan l.words)
