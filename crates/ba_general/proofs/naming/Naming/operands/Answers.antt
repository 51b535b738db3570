use Rattle.std.proofs.Common.{[], subst, sym}
use Rattle.ba_general.specs.Patterns.{NamesOperands}
use Rattle.ba_general.proofs.NamesLemmas.{operands_more, operands_none}
use Rattle.ba_general.proofs.naming.Naming.operands.Goals as goal

pub loop-operand-init : goal.loop-operand-init
loop-operand-init c = subst (NamesOperands c.args.self.now [] c.args.self.now) (sym c.new-all.ensures) (operands_none c.args.self.now)

pub loop-operand-preserved : goal.loop-operand-preserved
loop-operand-preserved c =
    operands_more c.args.self.now c.loop-operand.self c.operand.new.self c.args.operands.now c.loop-operand.operand-index c.operand-item.result c.in_ok-operand.field-0
    c.loop-operand.all c.push.new.self c.loop-operand-test.true c.operand-item.is c.loop-operand.invariant c.in_ok-operand.ensures c.in_ok-push.ensures.ok
