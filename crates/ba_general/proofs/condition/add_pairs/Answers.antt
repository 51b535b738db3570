use Rattle.ba_general.proofs.ConditionLemmas.{adds_more}
use Rattle.ba_general.proofs.condition.add_pairs.Goals as goal

pub loop-other-preserved : goal.loop-other-preserved
loop-other-preserved c =
    adds_more c.args.group c.args.operand.now c.args.others.now c.loop-other.other-index c.other-item.result c.in_ok-atom.atom c.args.atoms.now.items
    c.loop-other.atoms.items c.add_if.new.atoms.items c.loop-other-test.true c.other-item.is c.loop-other.invariant c.in_ok-atom.ensures c.in_ok-add_if.ensures
