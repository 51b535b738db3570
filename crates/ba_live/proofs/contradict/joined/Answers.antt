use Rattle.ba_live.proofs.RoomLemmas.{joins_more}
use Rattle.ba_live.proofs.contradict.joined.Goals as goal

pub loop-i-preserved : goal.loop-i-preserved
loop-i-preserved c =
    joins_more c.args.trace.now c.loop-i.all c.push.new.self c.loop-i.i c.entry.result.now c.in_ok-entry.entry c.entry.ensures c.in_ok-entry.ensures c.loop-i.invariant c.in_ok-push.ensures.ok
