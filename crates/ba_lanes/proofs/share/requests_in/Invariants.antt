use Rattle.std.proofs.Common.{◌≡◌, length, take}
use Rattle.ba_lanes.specs.Legal.{contexts_of}
use Rattle.ba_lanes.proofs.share.requests_in.Given as goal

-- how many requests the lines so far begin
abbrev pub invariant-loop-said : goal.invariant-loop-said
invariant-loop-said l = l.count ≡ length (contexts_of (take l.said-index l.said-items))
