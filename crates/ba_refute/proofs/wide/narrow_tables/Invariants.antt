use Rattle.std.proofs.Common.{◌≡◌, All, take}
use Rattle.ba_refute.specs.Counterexamples.{IsStored}
use Rattle.ba_refute.proofs.wide.narrow_tables.Given as goal

abbrev pub invariant-loop-rows : goal.invariant-loop-rows
invariant-loop-rows l = (l.all.items ≡ take l.rows-index l.tables) × All (All (All IsStored)) (take l.rows-index l.tables)
