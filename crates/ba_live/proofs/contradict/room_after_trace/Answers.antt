use Rattle.std.proofs.Common.{◌∙◌, sym}
use Rattle.ba_live.proofs.RoomLemmas.{room_ends_at, room_more_at}
use Rattle.ba_live.specs.Contradicting.{room_after}
use Rattle.ba_live.proofs.contradict.room_after_trace.Goals as goal

pub returns-in-None : goal.returns-in-None
returns-in-None c =
    room_ends_at c.loop-i.left c.args.trace.now c.loop-i.i c.entry.result.now (room_after c.args.room c.args.trace.now) c.entry.ensures c.loop-i.invariant
    (sym c.room_behind.ensures ∙ c.in-None.is)

pub loop-i-preserved : goal.loop-i-preserved
loop-i-preserved c =
    room_more_at c.loop-i.left c.in-Some.room c.args.trace.now c.loop-i.i c.entry.result.now (room_after c.args.room c.args.trace.now) c.entry.ensures c.loop-i.invariant
    (sym c.room_behind.ensures ∙ c.in-Some.is)
