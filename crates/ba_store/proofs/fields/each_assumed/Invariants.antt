use Rattle.serde_json.specs.View.{view}
use Rattle.ba_proof.proofs.EachLemmas.{EachAt}
use Rattle.ba_store.specs.Reading.{assumed_at}
use Rattle.ba_store.proofs.fields.each_assumed.Given as goal

abbrev pub invariant-loop-item : goal.invariant-loop-item
invariant-loop-item l = EachAt view (assumed_at l.policy.schema l.policy.params l.vars) l.items l.item-index l.found
