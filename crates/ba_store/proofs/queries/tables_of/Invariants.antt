use Rattle.serde_json.specs.View.{view}
use Rattle.ba_proof.proofs.EachLemmas.{EachAt}
use Rattle.ba_store.specs.Reading.{table_at}
use Rattle.ba_store.proofs.queries.tables_of.Given as goal

abbrev pub invariant-loop-item : goal.invariant-loop-item
invariant-loop-item l = EachAt view (table_at l.field l.schema) l.items l.item-index l.found
