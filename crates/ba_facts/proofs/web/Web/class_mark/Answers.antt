use Rattle.std.proofs.Common.{◌<◌, length, refl, arith}
use Rattle.std.proofs.lemmas.Option.{slice_get_within}
use Rattle.ba_facts.proofs.web.Web.class_mark.Goals as goal

pub mark_of-requires-clause-numbered : goal.mark_of-requires-clause-numbered
mark_of-requires-clause-numbered c =
    let below : c.in-Some.x < length c.args.self.now.names = slice_get_within _ _ _ ((c.in-Some.ensures c.in-Some.x).0 refl) in
    omega (arith, c.requires.web.terms_are.naming.roomy)

pub mark_of-requires-clause-marked : goal.mark_of-requires-clause-marked
mark_of-requires-clause-marked c =
    let below : c.in-Some.x < length c.args.self.now.names = slice_get_within _ _ _ ((c.in-Some.ensures c.in-Some.x).0 refl) in
    omega (arith, c.requires.web.terms_are.naming.marked)
