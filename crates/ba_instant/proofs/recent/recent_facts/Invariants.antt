use Rattle.ba_instant.specs.Scans.{AreRecentBelow}
use Rattle.ba_instant.proofs.recent.recent_facts.Given as goal

-- the recent facts so far
abbrev pub invariant-loop-number : goal.invariant-loop-number
invariant-loop-number l = AreRecentBelow l.branch l.bound l.recent.items l.number
