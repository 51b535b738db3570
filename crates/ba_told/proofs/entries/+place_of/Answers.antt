use Rattle.ba_told.proofs.PlaceLemmas.{nowhere_in, place_in, place_short}
use Rattle.ba_told.proofs.entries.+place_of.Goals as goal

pub returns-in_default : goal.returns-in_default
returns-in_default t c = nowhere_in c.args.schema.now c.args.context.now c.args.row.now c.args.parts.now c.in_default.ensures.cases

pub behind-requires : goal.behind-requires
behind-requires t c =
    place_short c.args.schema.now c.args.context.now c.args.row.now c.in-Some.part.now c.in-Some.parts.now c.args.parts.now c.place_of-place.result c.in-Some.ensures.cases.0 c.requires
    c.place_of-place.ensures

pub returns : goal.returns
returns t c =
    place_in c.args.schema.now c.args.context.now c.args.row.now c.in-Some.part.now c.in-Some.parts.now c.args.parts.now c.can_be_of.result c.place_of-place.result c.behind.result
    c.in-Some.ensures.cases.0 c.behind.ensures c.can_be_of.ensures c.place_of-place.ensures
