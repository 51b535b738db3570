use Rattle.std.proofs.Common.{IfOk, subst}
use Rattle.ba_settle.specs.Dues.{Ends}
use Rattle.ba_settle.specs.declared.order.Pick.TheVariants.{Last}
use Rattle.ba_portfolio.proofs.both.settle_both.Goals as goal

pub returns : goal.returns
returns g c =
    c.told.ensures c.args.problem c.args.budget c.join-first.ensures.first
    (subst (λ p. IfOk c.join-first.result.1 (Ends Last p c.args.budget)) c.in_ok-same.ensures c.join-first.ensures.second)
