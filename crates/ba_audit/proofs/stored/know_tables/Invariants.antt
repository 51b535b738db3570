use Rattle.std.proofs.Common.{All, take}
use Rattle.ba_refute.specs.Counterexamples.{IsStored}
use Rattle.ba_audit.proofs.stored.know_tables.Given as goal

abbrev pub invariant-loop-rows : goal.invariant-loop-rows
invariant-loop-rows l = All (All (All IsStored)) (take l.rows-index l.tables)
