use Rattle.std.proofs.Common.{◌≡◌, drop}
use Rattle.ba_tables.specs.Broken.{broken_table}
use Rattle.ba_tables.proofs.broken.broken_by.Given as goal

abbrev pub invariant-loop-number : goal.invariant-loop-number
invariant-loop-number l = broken_table l.number l.rows (drop l.number l.tables) (drop l.number l.rows.tables) ≡ broken_table 0 l.rows l.tables l.rows.tables
