use Rattle.std.proofs.Common.{◌+◌, ap, drop, ◌∙◌}
use Rattle.std.proofs.lemmas.List.{take_rest}
use Rattle.ba_general.proofs.condition.behind.Goals as goal

pub returns : goal.returns
returns c = take_rest c.as_slice.result.now (c.args.n + 1) ∙ ap (drop (c.args.n + 1)) c.as_slice.ensures
