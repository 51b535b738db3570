use Rattle.std.proofs.Common.{All, take}
use Rattle.ba_refute.specs.Counterexamples.{IsStored}
use Rattle.ba_audit.proofs.stored.know_row.Given as goal

abbrev pub invariant-loop-value : goal.invariant-loop-value
invariant-loop-value l = All IsStored (take l.value-index l.row)
