use Rattle.std.proofs.Common.{◌≡◌, drop}
use Rattle.ba_model.specs.Meaning.{rows_of}
use Rattle.ba_tables.specs.Broken.{broken_link}
use Rattle.ba_tables.proofs.broken.broken_link.Given as goal

abbrev pub invariant-loop-link : goal.invariant-loop-link
invariant-loop-link l = broken_link l.table l.link l.rows (rows_of l.rows l.table) (drop l.link l.links) ≡ broken_link l.table 0 l.rows (rows_of l.rows l.table) l.links
