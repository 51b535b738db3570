use Rattle.std.proofs.Common.{arith, length, refl, subst}
use Rattle.ba_instant.proofs.NextLemmas.{may_close, may_saturate, may_spend}
use Rattle.ba_instant.specs.Nexts.{IsNext}
use Rattle.ba_instant.proofs.ends.end.Goals as goal

pub returns-in-Take : goal.returns-in-Take
returns-in-Take c =
    may_spend c.args.pick (length c.args.search.steps) c.args.search c.args.search.problem refl c.requires.searches c.in-Take.field-0 c.spent.result
    (subst (IsNext c.args.pick c.args.search) c.in-Take.is c.in_ok-next.ensures.next) refl c.spent.ensures

pub returns-in-Saturated : goal.returns-in-Saturated
returns-in-Saturated c =
    may_saturate c.args.pick (length c.args.search.steps) c.args.search c.args.search.problem refl c.requires.searches c.in-Saturated.number c.saturated.result
    (subst (IsNext c.args.pick c.args.search) c.in-Saturated.is c.in_ok-next.ensures.next) (omega arith) c.saturated.ensures

pub returns-in-Closed : goal.returns-in-Closed
returns-in-Closed c =
    may_close c.args.pick (length c.args.search.steps) c.args.search c.args.search.problem refl c.requires.searches c.closed.result
    (subst (IsNext c.args.pick c.args.search) c.in-Closed.is c.in_ok-next.ensures.next) (omega arith) c.closed.ensures
