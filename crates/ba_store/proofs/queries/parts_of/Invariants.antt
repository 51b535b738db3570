use Rattle.serde_json.specs.View.{view}
use Rattle.ba_proof.proofs.EachLemmas.{EachAt}
use Rattle.ba_store.specs.Reading.{part_at}
use Rattle.ba_store.proofs.queries.parts_of.Given as goal

abbrev pub invariant-loop-item : goal.invariant-loop-item
invariant-loop-item l = EachAt view (part_at l.field l.policy.schema l.policy.params) l.items l.item-index l.found
