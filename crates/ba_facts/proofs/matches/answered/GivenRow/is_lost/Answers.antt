use Rattle.std.proofs.Common.{inr}
use Rattle.ba_facts.proofs.matches.answered.GivenRow.is_lost.Goals as goal

pub returns-then-is_no_front : goal.returns-then-is_no_front
returns-then-is_no_front c = λ e. inr (rw c.as_slice.ensures at (c.is_no_front.ensures c.if-is_no_front.true))
