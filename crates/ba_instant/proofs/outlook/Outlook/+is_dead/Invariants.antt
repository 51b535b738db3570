use Rattle.std.proofs.Common.{All, take}
use Rattle.ba_instant.proofs.OutlookLemmas.{NeverFrom}
use Rattle.ba_instant.proofs.outlook.Outlook.+is_dead.Given as goal

abbrev pub decreases-is_dead : goal.decreases-is_dead
decreases-is_dead l = l.depth

-- nothing that is looked for has one of the facts so far
abbrev pub invariant-loop-fact : goal.invariant-loop-fact
invariant-loop-fact l = All (NeverFrom l.self l.places l.next.place) (take l.fact-index l.fact-items)
