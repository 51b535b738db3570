use Rattle.std.proofs.Common.{◌≤◌, length}
use Rattle.ba_facts.proofs.LaidLemmas.{HaveNone}
use Rattle.ba_facts.proofs.branch.Branch.last_holder.Given as goal

-- none of the facts from the number on has the unknown
abbrev pub invariant-loop-number : goal.invariant-loop-number
invariant-loop-number l = (l.number ≤ length l.self.facts) × HaveNone l.self.facts l.unknown l.number

abbrev pub decreases-loop-number : goal.decreases-loop-number
decreases-loop-number l = l.number
