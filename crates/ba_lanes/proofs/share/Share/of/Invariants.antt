use Rattle.std.proofs.Common.{take}
use Rattle.ba_lanes.specs.Lanes.{lines_of}
use Rattle.ba_lanes.specs.Legal.{lane_of}
use Rattle.ba_lanes.specs.Serving.{IsShare}
use Rattle.ba_lanes.proofs.share.Share.of.Given as goal

-- what the lane's lines so far take
abbrev pub invariant-loop-said : goal.invariant-loop-said
invariant-loop-said l = IsShare (lines_of (lane_of l.workers) l.number (take l.said-index l.said-items)) l.share
