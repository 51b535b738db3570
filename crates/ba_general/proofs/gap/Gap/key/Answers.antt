use Rattle.ba_general.proofs.GapLemmas.{no_key_left, no_key_right, nothing}
use Rattle.ba_general.specs.Leaving.{IsMoved}
use Rattle.ba_kernel.specs.declared.step.Step.TheVariants as steps
use Rattle.ba_general.proofs.gap.Gap.key.Goals as goal

pub returns-in_err-left : goal.returns-in_err-left
returns-in_err-left c =
    nothing (IsMoved c.args.self (steps.Key c.args.branch c.args.key c.args.left c.args.right)) c.from_residual.result c.from_residual.ensures
    (no_key_left c.args.self c.args.branch c.args.key c.args.left c.args.right c.in_err-left.ensures)

pub returns-in_err-right : goal.returns-in_err-right
returns-in_err-right c =
    nothing (IsMoved c.args.self (steps.Key c.args.branch c.args.key c.args.left c.args.right)) c.from_residual-in_err-right.result c.from_residual-in_err-right.ensures
    (no_key_right c.args.self c.args.branch c.args.key c.args.left c.args.right c.in_err-right.ensures)

pub returns : goal.returns
returns c = IsMoved.key c.in_ok-left.ensures c.in_ok-right.ensures
