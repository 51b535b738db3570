use Rattle.std.proofs.Common.{take}
use Rattle.ba_match.specs.Instances.{AreToldAt}
use Rattle.ba_match.proofs.accepted.all_told_at.Given as goal

abbrev pub invariant-loop-place : goal.invariant-loop-place
invariant-loop-place l = AreToldAt l.trace (take l.place-index l.places) l.told
