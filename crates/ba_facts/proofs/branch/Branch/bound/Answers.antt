use Rattle.ba_facts.specs.Shown.{Absurd}
use Rattle.ba_facts.proofs.branch.Branch.bound.Goals as goal

pub bound-requires : goal.bound-requires
bound-requires c = λ h. c.requires (Absurd.rising {a = h.term} {n = h.sum} h.above h.chain)
