use Rattle.serde_json.specs.View.{view}
use Rattle.ba_proof.proofs.EachLemmas.{EachAt}
use Rattle.ba_store.specs.Reading.{operand_at}
use Rattle.ba_store.proofs.operands.operands_of.Given as goal

abbrev pub invariant-loop-item : goal.invariant-loop-item
invariant-loop-item l = EachAt view (operand_at l.field l.params) l.items l.item-index l.found
