use Rattle.std.proofs.Common.{◌∙◌, sym}
use Rattle.ba_send.proofs.ZeroLemmas.{literal_at}
use Rattle.ba_send.proofs.operand.literal.Goals as goal

pub returns-in-Param : goal.returns-in-Param
returns-in-Param c = c.value_at.ensures ∙ sym (literal_at c.args.values.now c.in-Param.n c.args.operand.now c.in-Param.is)
