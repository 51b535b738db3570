use Rattle.ba_target.specs.Names.{AreAlike, AreApart}
use Rattle.ba_target.proofs.NameLemmas.{alike_first, alike_later, apart_more, match_map}
use Rattle.ba_target.proofs.names.+first_alike.Goals as goal

pub returns-in-Some-alike_to : goal.returns-in-Some-alike_to
returns-in-Some-alike_to t c =
    alike_first c.args.database _ _ c.args.names.now c.in-Some.others.now c.in-Some.ensures.cases.0 c.in-Some-alike_to.ensures.0 c.in-Some-alike_to.ensures.1

pub returns-in-None-alike_to : goal.returns-in-None-alike_to
returns-in-None-alike_to t c =
    match_map (AreApart c.args.database c.in-Some.others.now) (AreApart c.args.database c.args.names.now)
    (λ pair. AreAlike c.args.database pair.0.now pair.1.now c.in-Some.others.now)
    (λ pair. AreAlike c.args.database pair.0.now pair.1.now c.args.names.now) c.first_alike.result
    (apart_more c.args.database c.in-Some.name.now c.args.names.now c.in-Some.others.now c.in-Some.ensures.cases.0 c.in-None-alike_to.ensures)
    (λ pair h. alike_later c.args.database c.in-Some.name.now pair.0.now pair.1.now c.args.names.now c.in-Some.others.now c.in-Some.ensures.cases.0 h)
    c.first_alike.ensures
