use Rattle.ba_refute.proofs.WithinLemmas.{answer_passes}
use Rattle.ba_refute.proofs.within.rows_pass.Goals as goal

pub returns : goal.returns
returns c = answer_passes c.args.other.now c.args.two.now c.all_in.result c.in_ok-rows.ensures c.as_slice.ensures c.all_in.ensures
