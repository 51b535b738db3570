use Rattle.std.proofs.Common.{sym, ◌∙◌}
use Rattle.std.proofs.lemmas.Option.{none-some, slice_get_within}
use Rattle.ba_facts.specs.Known.{seen}
use Rattle.ba_facts.proofs.QueryLemmas.{alone_exact}
use Rattle.ba_facts.proofs.web.Web.is_of_class.Goals as goal

pub has_class-requires-clause-numbered : goal.has_class-requires-clause-numbered
has_class-requires-clause-numbered c = slice_get_within _ _ _ ((c.requires.numbered c.in-Some.x).0 c.in-Some.is)

pub returns-in-None : goal.returns-in-None
returns-in-None c = λ k w. alone_exact w.terms_are (seen c.args.a) (seen c.args.b) c.same.result (λ n h. none-some n (sym c.in-None.is ∙ (c.requires.numbered n).1 h)) c.same.ensures
