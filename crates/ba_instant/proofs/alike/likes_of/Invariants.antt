use Rattle.ba_instant.specs.Spreads.{AreLikesBelow}
use Rattle.ba_instant.proofs.alike.likes_of.Given as goal

-- the fact and those so far that are alike to it
abbrev pub invariant-loop-other : goal.invariant-loop-other
invariant-loop-other l = AreLikesBelow l.branch l.fact l.likes.items l.other
