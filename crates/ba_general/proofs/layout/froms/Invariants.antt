use Rattle.std.proofs.Common.{◌≡◌, take}
use Rattle.ba_general.specs.Layouts.{from_of}
use Rattle.ba_general.proofs.layout.froms.Given as goal

abbrev pub invariant-loop-part : goal.invariant-loop-part
invariant-loop-part l = l.all.items ≡ from_of (take l.part-index l.parts)
