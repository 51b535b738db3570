use Rattle.std.proofs.Common.{◌≡◌, map, take}
use Rattle.ba_match.specs.Instances.{number_at}
use Rattle.ba_match.proofs.instances.numbers_at.Given as goal

abbrev pub invariant-loop-place : goal.invariant-loop-place
invariant-loop-place l = l.numbers.items ≡ map (number_at l.trace) (take l.place-index l.places)
