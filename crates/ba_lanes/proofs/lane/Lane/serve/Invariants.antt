use Rattle.ba_lanes.proofs.ServeLemmas.{After}
use Rattle.ba_lanes.proofs.lane.Lane.serve.Given as goal

-- the lane's lines so far are served, and the passes and the lists have what those that are left may take
abbrev pub invariant-loop-said : goal.invariant-loop-said
invariant-loop-said g l = After l.input l.service l.fn.self.passes l.number l.said-items l.said-index l.self
