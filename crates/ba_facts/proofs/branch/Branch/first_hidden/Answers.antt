use Rattle.std.proofs.Common.{length, map, refl}
use Rattle.std.proofs.lemmas.Option.{slice_get_read}
use Rattle.ba_facts.proofs.PlaceLemmas.{all_places, places_more}
use Rattle.ba_facts.specs.Matches.{IsShown, terms_at}
use Rattle.ba_facts.proofs.branch.Branch.first_hidden.Goals as goal

pub returns-then-not-shows_of : goal.returns-then-not-shows_of
returns-then-not-shows_of c = record {
  atom = c.index-conds-number.result;
  there = slice_get_read _ (length c.args.conds.now) c.loop-number.number _ refl c.loop-number-test.true c.index-conds-number.is;
  hidden = λ h. let t = c.shows_of.ensures.1 h in cc;
  before = c.loop-number.invariant;
}

pub loop-number-preserved : goal.loop-number-preserved
loop-number-preserved c =
    places_more (IsShown c.args.self.now.known (map (terms_at c.args.self.now) c.args.facts.now)) c.args.conds.now c.loop-number.number
    c.index-conds-number.result c.loop-number-test.true c.index-conds-number.is
    (c.shows_of.ensures.0 c.if-not-shows_of.false) c.loop-number.invariant

pub returns : goal.returns
returns c =
    all_places (IsShown c.args.self.now.known (map (terms_at c.args.self.now) c.args.facts.now)) c.args.conds.now c.loop-number.number
    c.loop-number-test.false c.loop-number.invariant
