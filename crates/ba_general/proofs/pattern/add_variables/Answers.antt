use Rattle.ba_general.proofs.VariableLemmas.{variables_all, variables_more}
use Rattle.ba_general.proofs.pattern.add_variables.Goals as goal

pub loop-n-preserved : goal.loop-n-preserved
loop-n-preserved c =
    variables_more c.args.values.now c.loop-n.n c.index-values-n.result c.in_ok-value.value c.in_ok-number_of.field-0 c.args.all.now c.loop-n.all c.push.new.self
    c.loop-n-test.true c.index-values-n.is c.in_ok-value.ensures c.in_ok-number_of.ensures.value c.loop-n.invariant c.in_ok-push.ensures.ok

pub returns : goal.returns
returns c = variables_all c.args.values.now c.loop-n.n c.args.all.now c.loop-n.all c.loop-n-test.false c.loop-n.invariant
