use Rattle.serde_json.specs.View.{view}
use Rattle.ba_proof.proofs.EachLemmas.{EachAt}
use Rattle.ba_printed.specs.Reading.{value_of}
use Rattle.ba_printed.proofs.rows.each_value.Given as goal

abbrev pub invariant-loop-item : goal.invariant-loop-item
invariant-loop-item l = EachAt view value_of l.items l.item-index l.row
