use Rattle.std.proofs.Common.{All, take}
use Rattle.ba_refute.specs.Counterexamples.{IsStored}
use Rattle.ba_audit.proofs.stored.know_rows.Given as goal

abbrev pub invariant-loop-row : goal.invariant-loop-row
invariant-loop-row l = All (All IsStored) (take l.row-index l.rows)
