use Rattle.std.proofs.Common.{length}
use Rattle.ba_lex.specs.declared.token.Sign.TheVariants.{Comma}
use Rattle.ba_grammar.specs.Front.{listed}
use Rattle.ba_grammar.proofs.SeveralLemmas.{At}
use Rattle.ba_grammar.proofs.several.listed.Given as goal

abbrev pub invariant-loop : goal.invariant-loop
invariant-loop g l = At (g.W.Signed.sign_test Comma) g.T.Element.read_at (length l.words) l.counter l.found l.rest (listed (g.W.Signed.sign_test Comma) g.T.Element.read_at l.words)
