use Rattle.std.proofs.Common.{length}
use Rattle.ba_grammar.specs.Front.{all}
use Rattle.ba_grammar.proofs.SeveralLemmas.{AllAt}
use Rattle.ba_grammar.proofs.several.all.Given as goal

abbrev pub invariant-loop : goal.invariant-loop
invariant-loop g l = AllAt g.T.Element.read_at (length l.words) l.counter l.found l.rest (all g.T.Element.read_at (length l.words) l.words)
