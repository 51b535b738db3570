use Rattle.serde_json.specs.View.{view}
use Rattle.ba_proof.proofs.EachLemmas.{EachAt}
use Rattle.ba_store.specs.Reading.{entry_at}
use Rattle.ba_store.proofs.fields.each_entry.Given as goal

abbrev pub invariant-loop-item : goal.invariant-loop-item
invariant-loop-item l = EachAt view (entry_at l.policy.schema l.policy.params l.vars) l.items l.item-index l.found
