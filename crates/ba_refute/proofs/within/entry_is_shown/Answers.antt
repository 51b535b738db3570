use Rattle.ba_refute.proofs.WithinLemmas.{as_shown}
use Rattle.ba_refute.proofs.within.entry_is_shown.Goals as goal

pub returns : goal.returns
returns c = as_shown c.args.ctx.now c.args.one.now c.args.entry.now c.all_in.result c.deref-2.ensures c.as_slice.ensures c.deref.ensures c.all_in.ensures
