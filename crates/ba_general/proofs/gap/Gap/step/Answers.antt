use Rattle.std.proofs.Common.{subst, sym}
use Rattle.ba_kernel.specs.declared.step.Step.TheVariants as steps
use Rattle.ba_general.specs.Leaving.{IsMoved}
use Rattle.ba_general.proofs.gap.Gap.step.Goals as goal

pub returns-in-Entry : goal.returns-in-Entry
returns-in-Entry c = subst (λ s. IsMoved c.args.self s (steps.Entry c.in-Entry.branch c.in-Entry.entry)) (sym c.in-Entry.is) IsMoved.entry

pub returns-in-Absurd : goal.returns-in-Absurd
returns-in-Absurd c = subst (λ s. IsMoved c.args.self s (steps.Absurd c.in-Absurd.branch)) (sym c.in-Absurd.is) IsMoved.absurd
