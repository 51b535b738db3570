use Rattle.std.proofs.Common.{◌∙◌, ap, is_some}
use Rattle.ba_live.proofs.RoomLemmas.{few_behind, none_few}
use Rattle.ba_live.specs.Limits.{most_searched_rows}
use Rattle.ba_live.proofs.contradict.are_few.Goals as goal

pub returns-in-Some : goal.returns-in-Some
returns-in-Some c =
    c.is_some.ensures ∙ ap is_some c.room_after.ensures
    ∙ few_behind most_searched_rows c.in-Some.room c.args.trace.now c.args.entries.now c.room_after_trace.result c.room_after_trace.ensures c.in-Some.is

pub returns-in-None : goal.returns-in-None
returns-in-None c = none_few most_searched_rows c.args.trace.now c.args.entries.now c.room_after_trace.result c.room_after_trace.ensures c.in-None.is
