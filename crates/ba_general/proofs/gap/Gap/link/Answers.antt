use Rattle.ba_general.proofs.GapLemmas.{no_link, nothing}
use Rattle.ba_general.specs.Leaving.{IsMoved}
use Rattle.ba_kernel.specs.declared.step.Step.TheVariants as steps
use Rattle.ba_general.proofs.gap.Gap.link.Goals as goal

pub returns-in_err-fact : goal.returns-in_err-fact
returns-in_err-fact c =
    nothing (IsMoved c.args.self (steps.Link c.args.branch c.args.link c.args.fact)) c.from_residual.result c.from_residual.ensures
    (no_link c.args.self c.args.branch c.args.link c.args.fact c.in_err-fact.ensures)

pub returns : goal.returns
returns c = IsMoved.link c.in_ok-fact.ensures
