use Rattle.ba_refute.proofs.WithinLemmas.{all_shown}
use Rattle.ba_refute.proofs.within.shows.Goals as goal

pub returns : goal.returns
returns c = all_shown c.args.trace.now c.args.ctx.now c.args.one.now c.entries_are_shown.result c.entries_are_shown.ensures
