use Rattle.std.proofs.Common.{length}
use Rattle.ba_sql_ddl.specs.Written.{seen_text}
use Rattle.ba_sql_ddl.proofs.TextLemmas.{TextAt}
use Rattle.ba_sql_ddl.proofs.statement.statements.Given as goal

abbrev pub invariant-loop : goal.invariant-loop
invariant-loop l = TextAt (length l.words) l.counter (seen_text l.text) l.rest l.words
