use Rattle.std.proofs.Common.{◌≡◌, map, take}
use Rattle.ba_keys.specs.Literals.{part_with}
use Rattle.ba_keys.proofs.literals.query_with.Given as goal

abbrev pub invariant-loop-part : goal.invariant-loop-part
invariant-loop-part l = l.parts ≡ map (part_with l.params l.values) (take l.part-index l.part-items)
