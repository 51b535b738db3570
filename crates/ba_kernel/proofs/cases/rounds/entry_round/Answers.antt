use Rattle.std.proofs.Common.{inl, inr, refl}
use Rattle.ba_kernel.proofs.BuildRounds.{shares, shares_not}
use Rattle.ba_kernel.proofs.cases.rounds.entry_round.Goals as goal

pub returns-then-shares_literal : goal.returns-then-shares_literal
returns-then-shares_literal c = inl (shares c.args.problem.now c.args.row.now (c.shares_literal.ensures.0 c.if-shares_literal.true), refl)

pub returns-else-shares_literal : goal.returns-else-shares_literal
returns-else-shares_literal c =
    inr (shares_not c.args.problem.now c.args.row.now (λ h. let t = c.shares_literal.ensures.1 h in cc), refl)
