use Rattle.ba_refute.proofs.RisingLemmas.{all_rise}
use Rattle.ba_refute.proofs.rising.is_rising.Goals as goal

pub returns : goal.returns
returns c = λ t. all_rise c.args.rows.now c.loop-i.i c.loop-i-test.false c.loop-i.invariant
