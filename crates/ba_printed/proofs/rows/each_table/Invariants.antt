use Rattle.serde_json.specs.View.{view}
use Rattle.ba_proof.proofs.EachLemmas.{EachAt}
use Rattle.ba_printed.specs.Reading.{table_of}
use Rattle.ba_printed.proofs.rows.each_table.Given as goal

abbrev pub invariant-loop-table : goal.invariant-loop-table
invariant-loop-table l = EachAt (λ table. table) (table_of (view l.value)) l.tables l.table-index l.sets
