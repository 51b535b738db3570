use Rattle.ba_clash.proofs.StepLemmas.{met_more, met_none}
use Rattle.ba_clash.proofs.clash.is_met_in.Goals as goal

pub loop-place-preserved : goal.loop-place-preserved
loop-place-preserved c =
    met_more c.args.schema.now c.args.context.now c.args.old.now c.args.new.now c.args.part.now
    c.args.rows.now c.loop-place.place c.is_met_at.result c.loop-place.invariant
    c.is_met_at.ensures c.if-is_met_at.false

pub returns : goal.returns
returns c =
    met_none c.args.schema.now c.args.context.now c.args.old.now c.args.new.now c.args.part.now
    c.args.rows.now c.loop-place.place c.len-place-end.result c.loop-place.invariant
    c.len-place-end.ensures c.loop-place-test.false
