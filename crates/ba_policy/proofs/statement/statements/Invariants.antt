use Rattle.std.proofs.Common.{length, map}
use Rattle.ba_grammar.proofs.SeveralLemmas.{AllAt}
use Rattle.ba_policy.specs.Reader.{statement_at, statements_at}
use Rattle.ba_policy.specs.Statements.{seen}
use Rattle.ba_policy.proofs.statement.statements.Given as goal

abbrev pub invariant-loop : goal.invariant-loop
invariant-loop l = AllAt statement_at (length l.words) l.counter (map seen l.found) l.rest (statements_at l.words)
