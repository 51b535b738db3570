use Rattle.std.proofs.Common.{◌<◌, length, ◌∙◌, sym, arith}
use Rattle.std.proofs.lemmas.Option.{none-some, slice_get_within}
use Rattle.ba_facts.specs.Known.{seen}
use Rattle.ba_facts.proofs.QueryLemmas.{numbered_place, own_place_is}
use Rattle.ba_facts.proofs.web.Web.place_at.Goals as goal

pub mark_of-requires-clause-numbered : goal.mark_of-requires-clause-numbered
mark_of-requires-clause-numbered c =
    let below : c.in-Some.x < length c.args.self.now.names = slice_get_within _ _ _ ((c.requires.numbered c.in-Some.x).0 c.in-Some.is) in
    omega (arith, c.requires.some.web.terms_are.naming.roomy)

pub mark_of-requires-clause-marked : goal.mark_of-requires-clause-marked
mark_of-requires-clause-marked c =
    let below : c.in-Some.x < length c.args.self.now.names = slice_get_within _ _ _ ((c.requires.numbered c.in-Some.x).0 c.in-Some.is) in
    omega (arith, c.requires.some.web.terms_are.naming.marked)

pub returns-in-Some : goal.returns-in-Some
returns-in-Some c = numbered_place c.requires.some.web.terms_are (seen c.args.a) c.mark_of.result
    (record { number = c.in-Some.x; there = (c.requires.numbered c.in-Some.x).0 c.in-Some.is; has_mark = c.mark_of.ensures })

pub returns-in-None : goal.returns-in-None
returns-in-None c = λ p. rw c.own_place.ensures (own_place_is c.requires.some.web.terms_are (seen c.args.a) (λ n h. none-some n (sym c.in-None.is ∙ (c.requires.numbered n).1 h)) p)
