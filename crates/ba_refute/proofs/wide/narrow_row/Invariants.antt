use Rattle.std.proofs.Common.{◌≡◌, All, take}
use Rattle.ba_refute.specs.Counterexamples.{IsStored}
use Rattle.ba_refute.proofs.wide.narrow_row.Given as goal

abbrev pub invariant-loop-value : goal.invariant-loop-value
invariant-loop-value l = (l.row.items ≡ take l.value-index l.values) × All IsStored (take l.value-index l.values)
