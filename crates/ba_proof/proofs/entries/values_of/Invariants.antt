use Rattle.serde_json.specs.View.{view}
use Rattle.ba_proof.proofs.RowLemmas.{RowAt}
use Rattle.ba_proof.proofs.entries.values_of.Given as goal

abbrev pub invariant-loop-item : goal.invariant-loop-item
invariant-loop-item l = RowAt view l.policy.schema l.policy.params l.part l.items l.item-index l.row
