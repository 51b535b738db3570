use Rattle.std.proofs.Common.{refl}
use Rattle.std.proofs.lemmas.Option.{none-some}
use Rattle.ba_facts.proofs.MemberLemmas.{least_alone}
use Rattle.ba_facts.proofs.web.Web.least_of.Goals as goal

pub least_in-requires-clause-numbered : goal.least_in-requires-clause-numbered
least_in-requires-clause-numbered c = (c.in-Some.ensures c.in-Some.x).0 refl

pub returns-in-None : goal.returns-in-None
returns-in-None c = λ k w. least_alone w.terms_are c.args.unknown (λ n t. none-some n ((c.in-None.ensures n).1 t))
