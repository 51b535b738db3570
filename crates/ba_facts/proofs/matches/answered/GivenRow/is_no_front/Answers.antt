use Rattle.std.proofs.Common.{◌<◌, arith, length, map}
use Rattle.ba_facts.proofs.FrontLemmas.{other_front}
use Rattle.ba_facts.specs.Matches.{term_of, terms_at}
use Rattle.ba_facts.proofs.matches.answered.GivenRow.is_no_front.Goals as goal

pub returns-then-is_other : goal.returns-then-is_other
returns-then-is_other c = λ e.
    let b = c.args.walk.now.branch.now in
    let row = c.args.self.now in
    other_front b c.args.head.now (term_of (map (terms_at b) row.facts.now)) row.operands.now c.args.chosen.now c.loop-i.i c.index-head-i-then-places_of-chosen.result c.index-self-i.result
    (let below : c.loop-i.i < length c.args.head.now = omega arith in below) (let below : c.loop-i.i < length row.operands.now = omega arith in below)
    c.index-head-i-then-places_of-chosen.is c.index-self-i.is
    (rw (← c.index-self-i.is) at (c.is_other.ensures.0 c.if-is_other.true))
