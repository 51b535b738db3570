use Rattle.std.proofs.Common.{◌≡◌, ◌∷◌}
use Rattle.ba_match.proofs.matching.at_place.Given as goal

-- the place, and the others so far
abbrev pub invariant-loop-other : goal.invariant-loop-other
invariant-loop-other l = l.places ≡ l.fn.place ∷ l.yielded
