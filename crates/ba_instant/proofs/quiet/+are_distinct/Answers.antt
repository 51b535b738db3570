use Rattle.ba_instant.proofs.DistinctLemmas.{distinct_more, distinct_none}
use Rattle.ba_instant.proofs.quiet.+are_distinct.Goals as goal

pub returns-then-is_in_none : goal.returns-then-is_in_none
returns-then-is_in_none t c =
    λ yes. distinct_more _ _ _ c.in-Some.ensures.cases.0 (c.is_in_none.ensures.0 c.if-is_in_none.true) (c.are_distinct.ensures yes)

pub returns-in-None : goal.returns-in-None
returns-in-None t c = λ yes. distinct_none _ c.in-None.ensures.cases
