use Rattle.ba_refute.proofs.ValueLemmas.{literal_value}
use Rattle.ba_refute.proofs.values.class_value.Goals as goal

pub returns-in-Some : goal.returns-in-Some
returns-in-Some c =
    literal_value c.args.known.now c.args.marks c.args.nodes.now c.args.numbers.now c.args.least c.in-Some.value.now c.of.result c.in-Some.ensures c.of.ensures
