use Rattle.std.proofs.Common.{inr}
use Rattle.ba_facts.proofs.walk.Walk.is_lost.Goals as goal

pub returns-then-has_other : goal.returns-then-has_other
returns-then-has_other c = λ e. inr (c.has_other.ensures c.if-has_other.true)
