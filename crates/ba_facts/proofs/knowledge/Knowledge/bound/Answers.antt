use Rattle.std.proofs.Common.{subst}
use Rattle.ba_facts.specs.Knowing.{IsRising}
use Rattle.ba_facts.proofs.BoundLemmas.{absurd_rises}
use Rattle.ba_facts.proofs.knowledge.Knowledge.bound.Goals as goal

pub bound-requires-clause-order : goal.bound-requires-clause-order
bound-requires-clause-order c = λ h. c.requires (subst IsRising c.self.view_is (absurd_rises c.self.invariant h))
