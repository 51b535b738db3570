use Rattle.std.proofs.Common.{inl, inr}
use Rattle.ba_facts.proofs.matches.rounds.GivenAtom.may_come.Goals as goal

pub returns-then-not-has_other : goal.returns-then-not-has_other
returns-then-not-has_other c = λ lost. inr (inr (λ any. lost (c.may_give.ensures.1 (rw (← c.as_slice.ensures) at any))))

pub returns-else-not-has_other : goal.returns-else-not-has_other
returns-else-not-has_other c = λ lost. inr (inl (c.has_other.ensures c.if-not-has_other.false))
