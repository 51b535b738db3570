use Rattle.std.proofs.Common.{take}
use Rattle.ba_instant.specs.Outlooks.{MeetsAt}
use Rattle.ba_instant.proofs.outlook.Outlook.meeting.Given as goal

-- so it is of the facts so far
abbrev pub invariant-loop-fact : goal.invariant-loop-fact
invariant-loop-fact l = MeetsAt l.self l.atom l.chosen l.place (take l.fact-index l.facts) l.left.items
