use Rattle.ba_general.proofs.OthersLemmas.{SoFar}
use Rattle.ba_general.proofs.others.Taken.without.Given as goal

-- the steps before this one were gone through
abbrev pub invariant-loop-n : goal.invariant-loop-n
invariant-loop-n l = SoFar l.self.steps l.self.made.items l.first l.end l.n l.others.gaps.items l.others.moved
