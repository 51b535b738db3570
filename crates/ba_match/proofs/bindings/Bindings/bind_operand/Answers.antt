use Rattle.ba_match.proofs.PatternLemmas.{var_var}
use Rattle.ba_match.proofs.bindings.Bindings.bind_operand.Goals as goal

pub returns-in-Var-Var : goal.returns-in-Var-Var
returns-in-Var-Var c =
    var_var c.args.pattern.now c.args.operand.now c.in-Var-Var.n c.in-Var-Var.m c.in-Var-Var.is-0 c.in-Var-Var.is-1 c.args.self.now c.is_unchanged.result
    c.is_unchanged.ensures
