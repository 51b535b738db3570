use Rattle.ba_instant.proofs.OutlookLemmas.{OffersBelow}
use Rattle.ba_instant.proofs.outlook.Outlook.candidates.Given as goal

-- so it is of the facts so far
abbrev pub invariant-loop-fact : goal.invariant-loop-fact
invariant-loop-fact l = OffersBelow l.self l.place l.facts.items l.fact
