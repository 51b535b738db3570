use Rattle.std.proofs.Common.{◌≡◌, drop}
use Rattle.ba_model.specs.Meaning.{rows_of}
use Rattle.ba_tables.specs.Broken.{broken_key}
use Rattle.ba_tables.proofs.broken.broken_key.Given as goal

abbrev pub invariant-loop-key : goal.invariant-loop-key
invariant-loop-key l = broken_key l.table l.key (rows_of l.rows l.table) (drop l.key l.keys) ≡ broken_key l.table 0 (rows_of l.rows l.table) l.keys
