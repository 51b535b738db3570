use Rattle.std.proofs.Common.{◌≡◌, drop}
use Rattle.csv.specs.Records.{fields_of}
use Rattle.ba_tables.specs.TableFile.{values_from}
use Rattle.ba_tables.proofs.FrontLemmas.{with_front}
use Rattle.ba_tables.proofs.line.values_of.Given as goal

abbrev pub invariant-loop-place : goal.invariant-loop-place
invariant-loop-place l = with_front l.values (values_from l.row l.place (drop l.place l.columns) (drop l.place (fields_of l.line))) ≡ values_from l.row 0 l.columns (fields_of l.line)
