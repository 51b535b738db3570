use Rattle.ba_refute.proofs.WithinLemmas.{all_within}
use Rattle.ba_refute.proofs.within.is_within.Goals as goal

pub returns : goal.returns
returns c = all_within c.args.policy.now c.args.ctx.now c.args.one.now c.args.two.now c.views_pass.result c.as_slice.ensures c.views_pass.ensures
