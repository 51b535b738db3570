use Rattle.std.proofs.Common.{ap, arith, length}
use Rattle.ba_refute.proofs.UnknownLemmas.{least_is}
use Rattle.ba_refute.proofs.ValueLemmas.{values_more}
use Rattle.ba_refute.proofs.values.all_values.Goals as goal

pub class_value-requires-clause-is_least : goal.class_value-requires-clause-is_least
class_value-requires-clause-is_least c =
    least_is c.args.known.now c.loop-n.n c.least_of-least.result c.least_of-least.ensures
    (omega (arith, c.loop-n-test.true, c.in_ok-count.ensures, ap length c.unknowns.ensures))

pub loop-n-preserved : goal.loop-n-preserved
loop-n-preserved c =
    rw c.in_ok-push.ensures.items
    (values_more c.args.known.now c.args.marks c.args.nodes.now c.args.numbers.now c.loop-n.n c.least_of-least.result c.loop-n.values.items c.in_ok-class_value.field-0 c.loop-n.invariant c.least_of-least.ensures c.in_ok-class_value.ensures)
