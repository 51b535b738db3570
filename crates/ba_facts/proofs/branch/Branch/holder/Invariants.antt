use Rattle.std.proofs.Common.{◌-◌}
use Rattle.ba_facts.proofs.LaidLemmas.{Between}
use Rattle.ba_facts.proofs.branch.Branch.holder.Given as goal

abbrev pub invariant-loop-end : goal.invariant-loop-end
invariant-loop-end l = Between l.self.facts l.unknown l.first l.end

abbrev pub decreases-loop-end : goal.decreases-loop-end
decreases-loop-end l = l.end - l.first
