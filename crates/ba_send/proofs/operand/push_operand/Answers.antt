use Rattle.std.proofs.Common.{string_bytes}
use Rattle.ba_send.proofs.ZeroLemmas.{no_pieces, param_grows}
use Rattle.ba_send.proofs.operand.push_operand.Goals as goal

pub returns-in-Param : goal.returns-in-Param
returns-in-Param c =
    param_grows c.args.database c.args.schema.now c.args.from.now c.args.exact c.args.values.now c.in-Param.n c.args.operand.now c.push_literal.result _ _ _ c.in-Param.is
    c.value_at.ensures c.push_literal.ensures

pub returns-in-Var : goal.returns-in-Var
returns-in-Var c = no_pieces c.args.database c.args.schema.now c.args.from.now c.args.exact c.args.values.now c.in-Var.field-0 c.args.operand.now (string_bytes c.args.out.now) c.in-Var.is
