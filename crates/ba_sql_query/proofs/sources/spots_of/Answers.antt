use Rattle.std.proofs.Common.{◌∙◌, ap}
use Rattle.ba_sql_query.specs.Spots.{seen}
use Rattle.ba_sql_query.proofs.TellLemmas.{tells_all, tells_more, tells_none}
use Rattle.ba_sql_query.proofs.sources.spots_of.Goals as goal

pub loop-place-init : goal.loop-place-init
loop-place-init c = tells_none c.args.sources.now c.new-spots.result c.new-spots.ensures.empty

pub loop-place-preserved : goal.loop-place-preserved
loop-place-preserved c =
    tells_more c.args.sources.now c.loop-place.place c.index-sources-place.result c.loop-place.spots c.insert.new.self c.as_str-name.result c.seen-spot.result c.loop-place.invariant c.loop-place-test.true c.index-sources-place.is (c.as_str-name.ensures ∙ c.called.ensures) (c.seen-spot.ensures ∙ ap (λ o. seen o c.loop-place.place) (c.copied.ensures ∙ c.get.ensures.value)) c.in_ok-insert.ensures.updates

pub returns : goal.returns
returns c = tells_all c.args.sources.now c.loop-place.place c.loop-place.spots c.loop-place.invariant c.loop-place-test.false
