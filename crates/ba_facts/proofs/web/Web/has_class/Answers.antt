use Rattle.std.proofs.Common.{◌<◌, length, refl, arith}
use Rattle.std.proofs.lemmas.Option.{none-some, slice_get_within}
use Rattle.ba_facts.specs.Known.{seen}
use Rattle.ba_facts.proofs.QueryLemmas.{class_exact, never_class}
use Rattle.ba_facts.proofs.web.Web.has_class.Goals as goal

pub same-requires-clause-right : goal.same-requires-clause-right
same-requires-clause-right c =
    let below : c.in-Some.y < length c.args.self.now.names = slice_get_within _ _ _ ((c.in-Some.ensures c.in-Some.y).0 refl) in
    omega (arith, c.requires.some.web.terms_are.naming.roomy)

pub returns-in-Some : goal.returns-in-Some
returns-in-Some c = λ k a is w. class_exact w.terms_are c.args.x c.in-Some.y a (seen c.args.b) c.same.result is ((c.in-Some.ensures c.in-Some.y).0 refl) c.same.ensures

pub returns-in-None : goal.returns-in-None
returns-in-None c = λ k a is w. never_class w.terms_are c.args.x a (seen c.args.b) _ refl is (λ n h. none-some n ((c.in-None.ensures n).1 h))
