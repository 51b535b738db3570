use Rattle.std.proofs.Common.{map, string_bytes}
use Rattle.ba_top.proofs.Runs.{ran_task}
use Rattle.ba_top.proofs.top.run.Goals as goal

pub returns-in-Ok : goal.returns-in-Ok
returns-in-Ok g c = ran_task (map string_bytes c.args.words.now) _ _ _ _ _ _ c.in-Ok.task c.in-Ok.ensures.reads c.end_task.ensures
