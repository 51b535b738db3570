use Rattle.std.proofs.Common.{take}
use Rattle.ba_lanes.specs.Serving.{IsShare}
use Rattle.ba_lanes.proofs.share.Share.whole.Given as goal

-- what the lines so far take
abbrev pub invariant-loop-said : goal.invariant-loop-said
invariant-loop-said l = IsShare (take l.said-index l.said-items) l.share
