use Rattle.ba_instant.proofs.OutlookLemmas.{LeadsBelow}
use Rattle.ba_instant.proofs.outlook.Outlook.places.Given as goal

-- those that may stand at each place so far are enough
abbrev pub invariant-loop-place : goal.invariant-loop-place
invariant-loop-place l = LeadsBelow l.self l.places.items l.place
